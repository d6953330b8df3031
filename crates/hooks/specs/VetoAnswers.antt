-- The answers of `veto` on the routes that were offered.
use Rattle.std.specs.Prelude.{ℕ, List, map}
use Rattle.words.specs.declared.route.Route.{Route}
use Rattle.hooks.specs.declared.veto_answers.Kept.{Kept}
use Rattle.hooks.specs.declared.veto_answers.Kept.TheVariants.{Each, AllIn}
use Rattle.hooks.specs.Questions.{RouteAnswer}
use Rattle.hooks.specs.Vacant.{let_in_answer}

-- the answers that are kept so
abbrev pub vetoes_of : Kept → List RouteAnswer
vetoes_of (Each answers) = answers
vetoes_of (AllIn moment routes) = map (let_in_answer moment) routes

-- the routes, each with the program's answer
abbrev pub words_of : List RouteAnswer → List (Route × ℕ)
words_of answers = map (λ (a : RouteAnswer). (a.route, a.word)) answers
