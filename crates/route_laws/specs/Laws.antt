-- Laws about the candidates and the routing table (RFC 2328, sections 16.1 and 16.4).
use Rattle.std.specs.Prelude.{◌≡◌, ℕ, ◌↔◌, List, []}
use Rattle.std.specs.List.{Contains}
use Rattle.words.specs.declared.route.Route.{Route}
use Rattle.routes.specs.Candidates.{AreCandidates, IsCandidate}
use Rattle.routes.specs.Paths.{Way}
use Rattle.routes.specs.Tables.{RouteWords, HasAnswer, IsLetIn, IsStale, IsTable}
use Rattle.routes.specs.declared.root.Root.{Root}
use Rattle.routes.specs.Contents.{Contents}
use Rattle.routes.specs.Routes.{IsForwarded}
use Rattle.routes.specs.Summaries.{IsBoundaryWay, OffersInside}

-- ---- determinacy

-- a forwarding address has only one way
abbrev pub ForwardingIsDetermined : Type 0
ForwardingIsDetermined =
    (contents : Contents) (root : Root) (address : ℕ) (a b : Way)
    → IsForwarded (OffersInside contents root) address a
    → IsForwarded (OffersInside contents root) address b → a ≡ b

-- an AS boundary router has only one way, within the area or between areas
abbrev pub BoundaryWaysAreDetermined : Type 0
BoundaryWaysAreDetermined =
    (contents : Contents) (root : Root) (router : ℕ) (a b : Way)
    → IsBoundaryWay contents root router a
    → IsBoundaryWay contents root router b → a ≡ b

-- ---- the table

abbrev pub TablesAreDetermined : Type 0
TablesAreDetermined =
    (contents : Contents) (root : Root) (answers : RouteWords) (left right : List Route)
    → IsTable contents root answers left → IsTable contents root answers right → left ≡ right

-- each candidate was asked about, and let in
abbrev pub LetsAllIn : Contents → Root → RouteWords → Type 0
LetsAllIn contents root answers = (r : Route) → IsCandidate contents root r → IsLetIn answers r

-- the table has a route if and only if it is among the candidates and is let in, so it has none
-- before the first answers, and all if all are let in
pub record TablesArePartsOfCandidates : Type 0 where
  pub part : (contents : Contents) (root : Root) (answers : RouteWords) (routes table : List Route)
      → AreCandidates contents root routes → IsTable contents root answers table
      → (r : Route) → Contains table r ↔ (Contains routes r × IsLetIn answers r)
  pub empty : (contents : Contents) (root : Root) (table : List Route)
      → IsTable contents root [] table
      → table ≡ []
  pub whole : (contents : Contents) (root : Root) (answers : RouteWords) (routes table : List Route)
      → AreCandidates contents root routes → IsTable contents root answers table
      → LetsAllIn contents root answers → table ≡ routes

-- right after answers to all candidates the table isn't stale
abbrev pub AnswersToAllAreNotStale : Type 0
AnswersToAllAreNotStale =
    (contents : Contents) (root : Root) (answers : RouteWords) (routes : List Route)
    → AreCandidates contents root routes
    → ((r : Route) → Contains routes r → HasAnswer answers r) → IsStale contents root answers → ⊥
