-- What is told of one run of an object's program.
use Rattle.std.specs.Prelude.{◌≡◌, ℕ, List, [], ◌∷◌, ◌++◌, codes, decimal, string_bytes, Result, Ok}
use Rattle.std.specs.Prelude.{Err, is_err}
use Rattle.machine.specs.Given.{Given}
use Rattle.maps.specs.Words.{SeatView, fresh}
use Rattle.word_machine.specs.declared.ending.Run.{Run}
use Rattle.interp.specs.declared.trap.Trap.{Trap}
use Rattle.interp.specs.Outcome.{trap_number}
use Rattle.interp.specs.ObjectRuns.{RunsObject}
use Rattle.interp.specs.declared.limit.Limit.TheVariants.{Own}
use Rattle.commands.specs.declared.report.CommandOutput.{CommandOutput}

-- the line that is printed
abbrev pub outcome_line : Result Run Trap → List ℕ
outcome_line (Ok run) = codes "answer "
    ++ (decimal run.answer ++ (codes " used " ++ (decimal run.used ++ 10 ∷ [])))
outcome_line (Err trap) = codes "trap " ++ decimal (trap_number trap) ++ 10 ∷ []

-- no table rows
abbrev pub input_of : List ℕ → List ℕ → Given
input_of context packet = record { context = context; packet = packet; rows = [] }

-- A seat of a table of one seat, that had done nothing, ran the program of the object file that the
-- bytes are once on the input, for as many instructions as its object allows, with this end.
pub record Ran (bytes : List ℕ) (input : Given) (outcome : Result Run Trap) : Type 0 where
  pub seat : SeatView
  pub unused : seat ≡ fresh seat.table 0
  pub seat_after : SeatView
  pub runs : RunsObject bytes Own input seat outcome seat_after

-- The same on this context and packet, and the end is told.
pub record IsRun (bytes context packet : List ℕ) (report : CommandOutput) : Type 0 where
  pub outcome : Result Run Trap
  pub ran : Ran bytes (input_of context packet) outcome
  pub told : string_bytes report.text ≡ outcome_line outcome
  pub stuck : report.is_refused ≡ is_err outcome
