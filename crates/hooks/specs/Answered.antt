-- Which operations an answer was given by.
use Rattle.std.specs.Prelude.{◌≡◌, ◌<◌, ℕ, List, [], ◌∷◌, length, take}
use mathlib.Core.List.{IsPrefix}
use Rattle.machine.specs.Given.{Given}
use Rattle.machine.specs.Label.{Label}
use Rattle.maps.specs.Words.{SeatView}
use Rattle.words.specs.Numbers.{Moment}
use Rattle.words.specs.declared.route.Route.{Route}
use Rattle.words.specs.declared.route.TableRow.{TableRow}
use Rattle.helpers.specs.Seats.{SeatMakes}
use Rattle.hooks.specs.declared.operation.LoaderOperation.{LoaderOperation}
use Rattle.hooks.specs.Operations.{OperationsAnswer}
use Rattle.hooks.specs.Questions.{RouteAnswer, veto_input}

-- The operations that the asker knows now answer the input with the word. They begin with all that
-- it knew before, and the seat made exactly the steps of the run.
pub record IsAnswered (before now : List LoaderOperation) (old new : SeatView) (input : Given)
    (word : ℕ) : Type 0 where
  pub labels : List Label
  pub begins : IsPrefix before now
  pub made : SeatMakes old labels new
  pub answers : OperationsAnswer now input labels word

-- the answer of `veto` is on this route, at this moment, beside these rows
pub record IsVetoAnswered (before now : List LoaderOperation) (old new : SeatView)
    (moment : Moment) (rows : List TableRow) (route : Route) (a : RouteAnswer) : Type 0 where
  pub on : a.route ≡ route
  pub at : a.moment ≡ moment
  pub answered : IsAnswered before now old new (veto_input route moment rows) a.word

-- The answers are on these routes, in their order, at one moment and beside the same rows: each is
-- that of a question of its own, which the asker and the seat come to as the question before left
-- them. After the last one the asker may know more.
abbrev pub AreAnswered : (before now : List LoaderOperation) → (old new : SeatView) → Moment
    → List TableRow → List Route → List RouteAnswer → Type 0
AreAnswered before now old new moment rows [] [] = IsPrefix before now × (new ≡ old)
AreAnswered before now old new moment rows (route ∷ routes) (a ∷ answers) =
    (known : List LoaderOperation) × (seat : SeatView)
    × IsVetoAnswered before known old seat moment rows route a
    × AreAnswered known now seat new moment rows routes answers
AreAnswered before now old new moment rows routes answers = ⊥

-- the first of these routes were answered so, and not all of them
abbrev pub AreAnsweredInPart : (before now : List LoaderOperation) → (old new : SeatView) → Moment
    → List TableRow → List Route → Type 0
AreAnsweredInPart before now old new moment rows routes =
    (many : ℕ) × (answers : List RouteAnswer) × (many < length routes)
    × AreAnswered before now old new moment rows (take many routes) answers
