-- What a program at `veto` can do: keep candidates out of its own router's routing table. It can't
-- add a route, nor change one.
use Rattle.std.specs.Prelude.{List}
use Rattle.std.specs.List.{Contains}
use Rattle.words.specs.declared.route.Route.{Route}
use Rattle.routes.specs.Candidates.{IsCandidate}
use Rattle.routes.specs.Contents.{Contents}
use Rattle.routes.specs.Tables.{RouteWords, IsTable}
use Rattle.routes.specs.declared.root.Root.{Root}

-- whatever the answers are
pub record VetoesOnlyKeepRoutesOut : Type 0 where
  -- each route of the table is a candidate
  pub candidates : (contents : Contents) (root : Root) (answers : RouteWords) (table : List Route)
      → IsTable contents root answers table → (route : Route) → Contains table route
      → IsCandidate contents root route
  -- and a candidate that isn't in the table wasn't answered with 0
  pub kept_out : (contents : Contents) (root : Root) (answers : RouteWords) (table : List Route)
      → IsTable contents root answers table → (route : Route) → IsCandidate contents root route
      → (Contains table route → ⊥) → Contains answers (route, 0) → ⊥
