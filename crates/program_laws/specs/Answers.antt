-- What an answer at a hook depends on.
use Rattle.std.specs.Prelude.{◌≡◌, ℕ, List, ◌++◌, Some, None}
use mathlib.Core.List.{IsPrefix}
use Rattle.isa.specs.declared.hook.Hook.{Hook}
use Rattle.machine.specs.Given.{Given}
use Rattle.machine.specs.Input.{IsOfHook}
use Rattle.machine.specs.Label.{Label}
use Rattle.maps.specs.Words.{SeatView}
use Rattle.helpers.specs.Seats.{acts}
use Rattle.hooks.specs.declared.operation.LoaderOperation.{LoaderOperation}
use Rattle.hooks.specs.Answered.{IsAnswered}
use Rattle.hooks.specs.Operations.{Program, RunsTo, default_of, leaves}
use Rattle.program_laws.specs.Seats.{IsLawfulList}

-- It depends only on the program that is at the hook after the operations.
pub record AnswersAreOfWhatStands : Type 0 where
  -- if there is none, the answer is the default, and the seat made no access
  pub default : (before now : List LoaderOperation) (old new : SeatView) (hook : Hook)
      (input : Given) (word : ℕ) → IsAnswered before now old new input word → IsOfHook hook input
      → leaves hook now ≡ None → (word ≡ default_of hook input) × (new.accesses ≡ old.accesses)
  -- if there is one, the answer is the result of one of its runs, and the seat made the accesses of
  -- that run
  pub program : (before now : List LoaderOperation) (old new : SeatView) (hook : Hook)
      (input : Given) (word : ℕ) (program : Program) → IsAnswered before now old new input word
      → IsOfHook hook input → leaves hook now ≡ Some program
      → (labels : List Label) × RunsTo program input labels word
      × (new.accesses ≡ old.accesses ++ acts labels)
  -- the operations that the asker knows begin with those that it knew
  pub known : (before now : List LoaderOperation) (old new : SeatView) (input : Given) (word : ℕ)
      → IsAnswered before now old new input word → IsPrefix before now
  -- and the accesses of the seat are still lawful
  pub lawful : (before now : List LoaderOperation) (old new : SeatView) (input : Given) (word : ℕ)
      → IsAnswered before now old new input word → IsLawfulList old.accesses
      → IsLawfulList new.accesses
