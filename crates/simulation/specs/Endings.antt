-- How the program ends: what is printed, and with which status.
use Rattle.std.specs.Prelude.{◌≡◌, ◌⊎◌, ℕ, List, Option, Result, Ok, Err}
use Rattle.simulation.specs.Statuses.{status_of}
use Rattle.simulation.specs.declared.fault.SimulationError.{SimulationError}
use Rattle.simulation.specs.declared.fault.SimulationError.TheVariants as faults

-- what a writer has, if that is known
abbrev pub Contents : Type 0
Contents = Option (List ℕ)

-- A text about usage leaves the first writer as it was, and every other text the second.
abbrev pub LeavesOne : SimulationError → (output output_after errors errors_after : Contents)
    → Type 0
LeavesOne (faults.Usage error) output output_after errors errors_after = output_after ≡ output
LeavesOne fault output output_after errors errors_after = errors_after ≡ errors

-- The status is the fault's own, or the text couldn't be told.
pub record Tells (fault : SimulationError) (output output_after errors errors_after : Contents)
    (status : ℕ) : Type 0 where
  pub status_is : (status ≡ 3) ⊎ (status ≡ status_of fault)
  pub other_writer : LeavesOne fault output output_after errors errors_after

-- all is at rest, or nothing was found; or not so
abbrev pub IsVerdict : ℕ → Type 0
IsVerdict status = (status ≡ 0) ⊎ (status ≡ 1)

-- What was played has told itself, and its verdict is the status; or its fault is told.
abbrev pub Ends : Result ℕ SimulationError → (output output_after errors errors_after : Contents)
    → ℕ → Type 0
Ends (Ok verdict) output output_after errors errors_after status =
    (status ≡ verdict) × (output_after ≡ output) × (errors_after ≡ errors)
Ends (Err fault) output output_after errors errors_after status =
    Tells fault output output_after errors errors_after status
