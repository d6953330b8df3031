-- Answers on routes.
use Rattle.std.specs.Prelude.{◌≡◌, ℕ, List, map}
use Rattle.keyed_map.specs.declared.route_answers.Kept.{Kept}
use Rattle.keyed_map.specs.declared.route_answers.Kept.TheVariants.{Each, AllIn}
use Rattle.keyed_map.specs.declared.route_answers.KeptAnswers.{KeptAnswers}
use Rattle.keyed_map.specs.declared.route_answers.KeptAnswers.TheVariants as shown
use Rattle.words.specs.declared.route.Route.{Route}

-- each of these routes with the word 0
abbrev pub all_in : List Route → List (Route × ℕ)
all_in routes = map (λ route. (route, 0)) routes

-- the answers that are kept so
abbrev pub answers_of : Kept → List (Route × ℕ)
answers_of (Each answers) = answers
answers_of (AllIn routes) = all_in routes

-- these are the answers
abbrev pub AreKeptAs : KeptAnswers → List (Route × ℕ) → Type 0
AreKeptAs (shown.Each each) answers = each.now ≡ answers
AreKeptAs (shown.AllIn routes) answers = answers ≡ all_in routes.now
