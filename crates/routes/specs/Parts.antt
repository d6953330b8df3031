-- The routes of a list that answers let in, and those that they leave unanswered.
use Rattle.std.specs.Prelude.{◌≡◌, ℕ, List, Some, slice_get, ◌↔◌}
use Rattle.std.specs.List.{AllPairs, Contains}
use Rattle.words.specs.declared.route.Route.{Route}
use Rattle.routes.specs.Routes.{IsBefore}
use Rattle.routes.specs.Tables.{RouteWords, HasAnswer, IsLetIn}

abbrev pub Ascend : List Route → Type 0
Ascend routes = AllPairs (λ (a : Route) (b : Route). IsBefore a.prefix b.prefix) routes

-- exactly the routes that the answers let in, in the order of the list
pub record AreLetIn (answers : RouteWords) (routes part : List Route) : Type 0 where
  pub each : (r : Route) → Contains part r ↔ (Contains routes r × IsLetIn answers r)
  pub ascending : Ascend routes → Ascend part

-- some route has no answer
abbrev pub LacksAnswers : RouteWords → List Route → Type 0
LacksAnswers answers routes = (r : Route) × Contains routes r × (HasAnswer answers r → ⊥)

-- each answered route is one of these
abbrev pub AreAnswersAmong : RouteWords → List Route → Type 0
AreAnswersAmong answers routes = (r : Route) → HasAnswer answers r → Contains routes r

-- the answer to this route is at this index
abbrev pub StandsAt : RouteWords → ℕ → Route → Type 0
StandsAt answers at route = (word : ℕ) × (slice_get answers at ≡ Some (route, word))
