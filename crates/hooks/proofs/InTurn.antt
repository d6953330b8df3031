-- Answers to questions about routes, one after the other.
use Rattle.std.proofs.Common.{◌≡◌, ℕ, ◌+◌, ◌<◌, List, [], ◌∷◌, ◌++◌, length, take, get_or, refl}
use Rattle.std.proofs.Common.{ap, sym, subst, ◌∙◌}
use Rattle.std.proofs.lemmas.List.{take_more}
use mathlib.Core.List.{IsPrefix}
use Rattle.maps.specs.Words.{SeatView}
use Rattle.words.specs.Numbers.{Moment}
use Rattle.words.specs.declared.route.Route.{Route}
use Rattle.words.specs.declared.route.TableRow.{TableRow}
use Rattle.hooks.specs.declared.operation.LoaderOperation.{LoaderOperation}
use Rattle.hooks.specs.Answered.{AreAnswered, IsVetoAnswered}
use Rattle.hooks.specs.Questions.{RouteAnswer}
use Rattle.hooks.proofs.Fronts.{prefix_self, prefix_trans}

-- what is known may grow before a question
later : (before now then : List LoaderOperation) → IsPrefix before now → (old new : SeatView)
    (moment : Moment) (rows : List TableRow) (route : Route) (a : RouteAnswer)
    → IsVetoAnswered now then old new moment rows route a
    → IsVetoAnswered before then old new moment rows route a
later before now then begins old new moment rows route a h = record {
  on = h.on;
  at = h.at;
  answered = record {
    labels = h.answered.labels;
    begins = prefix_trans before now then begins h.answered.begins;
    made = h.answered.made;
    answers = h.answered.answers;
  };
}

-- and after the last one
pub grown : (known before now : List LoaderOperation) → IsPrefix before now → (old new : SeatView)
    (moment : Moment) (rows : List TableRow) (routes : List Route) (answers : List RouteAnswer)
    → AreAnswered known before old new moment rows routes answers
    → AreAnswered known now old new moment rows routes answers
grown known before now begins old new moment rows [] [] all =
    (prefix_trans known before now all.0 begins, all.1)
grown known before now begins old new moment rows [] (b ∷ answers) all = absurd all
grown known before now begins old new moment rows (r ∷ routes) [] all = absurd all
grown known before now begins old new moment rows (r ∷ routes) (b ∷ answers) all = (
  all.0,
  all.1,
  all.2,
  grown all.0 before now begins all.1 new moment rows routes answers all.3,
)

-- one more question
then_one : (before mid now : List LoaderOperation) (old seat new : SeatView) (moment : Moment)
    (rows : List TableRow) (routes : List Route) (answers : List RouteAnswer) (route : Route)
    (a : RouteAnswer) → AreAnswered before mid old seat moment rows routes answers
    → IsVetoAnswered mid now seat new moment rows route a
    → AreAnswered before now old new moment rows (routes ++ route ∷ []) (answers ++ a ∷ [])
then_one before mid now old seat new moment rows [] [] route a all one = (
  now,
  new,
  subst (λ (s : SeatView). IsVetoAnswered before now s new moment rows route a) all.1
      (later before mid now all.0 seat new moment rows route a one),
  (prefix_self now, refl),
)
then_one before mid now old seat new moment rows [] (b ∷ answers) route a all one = absurd all
then_one before mid now old seat new moment rows (r ∷ routes) [] route a all one = absurd all
then_one before mid now old seat new moment rows (r ∷ routes) (b ∷ answers) route a all one = (
  all.0,
  all.1,
  all.2,
  then_one all.0 mid now all.1 seat new moment rows routes answers route a all.3 one,
)

pub one_more : (before mid now : List LoaderOperation) (old seat new : SeatView) (moment : Moment)
    (rows : List TableRow) (routes : List Route) (at i j : ℕ) (answers after : List RouteAnswer)
    (route : Route) (a : RouteAnswer) → at < length routes → route ≡ get_or routes at route
    → at ≡ i → j ≡ at + 1 → after ≡ answers ++ a ∷ []
    → AreAnswered before mid old seat moment rows (take i routes) answers
    → IsVetoAnswered mid now seat new moment rows route a
    → AreAnswered before now old new moment rows (take j routes) after
one_more before mid now old seat new moment rows routes at i j answers after route a there item
    same next grown all one =
    let so_far : AreAnswered before mid old seat moment rows (take at routes) answers =
    subst (λ (k : ℕ). AreAnswered before mid old seat moment rows (take k routes) answers)
    (sym same) all in
    let more : take (at + 1) routes ≡ take at routes ++ route ∷ [] =
    take_more routes at route there ∙ ap (λ r. take at routes ++ r ∷ []) (sym item) in
    subst (λ (k : ℕ). AreAnswered before now old new moment rows (take k routes) after) (sym next)
    (subst (λ (l : List Route). AreAnswered before now old new moment rows l after) (sym more)
    (subst (λ (l : List RouteAnswer). AreAnswered before now old new moment rows
    (take at routes ++ route ∷ []) l) (sym grown)
    (then_one before mid now old seat new moment rows (take at routes) answers route a so_far one)))
