-- What an asker knows of the programs, and the seat at which it asks.
use Rattle.std.specs.Prelude.{◌≡◌, ℕ, zero, suc, List}
use mathlib.Core.List.{IsPrefix}
use Rattle.words.specs.Numbers.{Moment}
use Rattle.words.specs.declared.route.Route.{Route}
use Rattle.words.specs.declared.route.TableRow.{TableRow}
use Rattle.maps.specs.Words.{SeatView}
use Rattle.machine.specs.Given.{Given}
use Rattle.hooks.specs.declared.asker.Asker.{Asker}
use Rattle.hooks.specs.declared.operation.LoaderOperation.{LoaderOperation}
use Rattle.hooks.specs.Answered.{AreAnswered, IsAnswered}
use Rattle.hooks.specs.Known.{known_to}
use Rattle.hooks.specs.Questions.{RouteAnswer}

-- the operations of the loader that the asker knows, and the seat with all that it did to counters
-- and cells
pub record AskerState : Type 0 where
  pub known : List LoaderOperation
  pub seat : SeatView

abbrev pub asker_state : Asker → SeatView → AskerState
asker_state asker seat = record { known = known_to asker; seat = seat }

-- The programs that the asker knows then answered this word to this input, by a run at its seat:
-- in a cell the run found what the seat had stored there last, or 0, in a counter at least what the
-- seat knew of it, and the seat did just what the run does. A hook without a program answers its
-- default, which counts as a run that does nothing.
abbrev pub IsAnsweredAt : (old new : AskerState) → Given → (word : ℕ) → Type 0
IsAnsweredAt old new input word =
    IsAnswered old.known new.known old.seat new.seat input word

-- The asker comes from the first state to the other by this many runs at its seat, one after the
-- other, each about some input. It may learn of operations of the loader too; nothing else uses the
-- seat.
abbrev pub IsAfterRuns : (runs : ℕ) → (old new : AskerState) → Type 0
IsAfterRuns zero old new = IsPrefix old.known new.known × (new.seat ≡ old.seat)
IsAfterRuns (suc runs) old new =
    (between : AskerState) × (input : Given) × (word : ℕ) × IsAnsweredAt old between input word
    × IsAfterRuns runs between new

-- by some runs, or none
abbrev pub IsLater : (old new : AskerState) → Type 0
IsLater old new = (runs : ℕ) × IsAfterRuns runs old new

-- the answers of `veto` are on these routes, in their order, at this moment and beside these rows,
-- each by a run at the seat as the one before left it; after the last one the asker may know more
abbrev pub AreVetoes : (old new : AskerState) → Moment → List TableRow → List Route
    → List RouteAnswer → Type 0
AreVetoes old new moment rows routes answers =
    AreAnswered old.known new.known old.seat new.seat moment rows routes answers
