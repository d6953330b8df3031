-- There is one way, one candidate for a prefix, and one list of candidates (RFC 2328, sections 16.1
-- and 16.4).
use Rattle.std.specs.Prelude.{◌≡◌, ◌≤◌, List}
use Rattle.words.specs.declared.key.Key.{Key}
use Rattle.words.specs.declared.route.Route.{Route}
use Rattle.routes.specs.Candidates.{AreCandidates, IsCandidate}
use Rattle.routes.specs.Links.{Leads}
use Rattle.routes.specs.declared.node.Node.{Node}
use Rattle.routes.specs.Paths.{IsWay, Way}
use Rattle.routes.specs.declared.root.Root.{Root}
use Rattle.routes.specs.Contents.{Contents}

-- whatever the links, there is one way to a vertex
abbrev pub WaysAreDetermined : Type 0
WaysAreDetermined =
    (contents : Contents) (root : Root) (from to : Node) (a b : Way)
    → IsWay (Leads contents root) from to a
    → IsWay (Leads contents root) from to b → a ≡ b

-- what LSAs of types 1 and 2 say determines all ways
abbrev pub WaysRestOnLinks : Type 0
WaysRestOnLinks =
    (old new : Contents) (root : Root) → ((key : Key) → key.ls_type ≤ 2 → old key ≡ new key)
    → (from to : Node) (way : Way) → IsWay (Leads old root) from to way
    → IsWay (Leads new root) from to way

abbrev pub OneCandidateForEachPrefix : Type 0
OneCandidateForEachPrefix =
    (contents : Contents) (root : Root) (r s : Route) → IsCandidate contents root r
    → IsCandidate contents root s
    → r.prefix ≡ s.prefix → r ≡ s

abbrev pub CandidatesAreDetermined : Type 0
CandidatesAreDetermined =
    (contents : Contents) (root : Root) (left right : List Route) → AreCandidates contents root left
    → AreCandidates contents root right → left ≡ right
