-- The routing table: the candidates that the program at `veto` let in when it was last asked about
-- all of them.
use Rattle.std.specs.Prelude.{ℕ, List, ◌↔◌}
use Rattle.std.specs.List.{AllPairs, Contains}
use Rattle.words.specs.declared.route.Route.{Route}
use Rattle.routes.specs.Candidates.{IsCandidate}
use Rattle.routes.specs.declared.root.Root.{Root}
use Rattle.routes.specs.Contents.{Contents}
use Rattle.routes.specs.Routes.{IsBefore}

-- routes with the words that were answered about them, 0 to let the route in; empty before the
-- first answers
abbrev pub RouteWords : Type 0
RouteWords = List (Route × ℕ)

-- an equal route is among the answers, with 0
abbrev pub IsLetIn : RouteWords → Route → Type 0
IsLetIn answers r = Contains answers (r, 0)

-- an equal route is among the answers
abbrev pub HasAnswer : RouteWords → Route → Type 0
HasAnswer answers r = (word : ℕ) × Contains answers (r, word)

-- exactly the candidates that were let in, in the order of their prefixes
pub record IsTable (contents : Contents) (root : Root) (answers : RouteWords)
    (table : List Route) : Type 0 where
  pub each : (r : Route) → Contains table r ↔ (IsCandidate contents root r × IsLetIn answers r)
  pub ascending : AllPairs (λ (a : Route) (b : Route). IsBefore a.prefix b.prefix) table

-- some candidate has no answer, so that the program is to be asked again
abbrev pub IsStale : Contents → Root → RouteWords → Type 0
IsStale contents root answers = (r : Route) × IsCandidate contents root r
    × (HasAnswer answers r → ⊥)
