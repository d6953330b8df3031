-- Routes that are all let in.
use Rattle.std.proofs.Common.{◌≡◌, List, [], ◌∷◌, map, refl, ap}
use Rattle.words.specs.Numbers.{Moment}
use Rattle.words.specs.declared.route.Route.{Route}
use Rattle.keyed_map.specs.Answers.{all_in}
use Rattle.hooks.specs.Vacant.{let_in_answer}
use Rattle.hooks.specs.VetoAnswers.{words_of}

pub words_let_in : (moment : Moment) (routes : List Route)
    → words_of (map (let_in_answer moment) routes) ≡ all_in routes
words_let_in moment [] = refl
words_let_in moment (route ∷ routes) = ap (λ l. (route, 0) ∷ l) (words_let_in moment routes)
