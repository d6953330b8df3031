-- Runs of code that counts turns, compared with runs of the given code.
use Rattle.std.specs.Prelude.{◌≡◌, ℕ, ◌+◌, ◌≤◌, ◌⊎◌, Option, Some, None, List, [], ◌∷◌, ◌++◌}
use Rattle.isa.specs.declared.code.Slot.{Slot}
use Rattle.isa.specs.declared.hook.Hook.{Hook}
use Rattle.isa.specs.Code.{IsCode}
use Rattle.machine.specs.Given.{Given}
use Rattle.machine.specs.declared.fault.Fault.TheVariants.{Outside, HalfWide}
use Rattle.machine.specs.declared.state.State.{State}
use Rattle.machine.specs.Label.{Label, Silent}
use Rattle.machine.specs.State.{Setting, setting_of, start}
use Rattle.machine.specs.Steps.{Step, Exits}
use Rattle.machine.specs.Faults.{Stuck}
use Rattle.machine.specs.Runs.{Ends}
use Rattle.annotations.specs.Annotated.{CountsLoops}
use Rattle.annotations.specs.CountedCode.{IsCounted, StaysInside, place_of}

-- the labels of accesses to counters and cells
abbrev pub accesses : List Label → List Label
accesses [] = []
accesses (Silent ∷ labels) = accesses labels
accesses (label ∷ labels) = label ∷ accesses labels

-- A step is a turn if it leads back to a head, or to its own slot.
abbrev pub turns_of : Option ℕ → ℕ
turns_of None = 0
turns_of (Some place) = 1

abbrev pub turns_between : List ℕ → State → State → ℕ
turns_between heads s next = turns_of (place_of heads s.slot (Some next.slot))

-- Steps with these labels, in order, lead from the first state to the last, and the given number of
-- them are turns.
abbrev pub LeadsInTurns : Setting → List ℕ → State → List Label → ℕ → State → Type 0
LeadsInTurns setting heads s [] turns end = (s ≡ end) × (turns ≡ 0)
LeadsInTurns setting heads s (label ∷ labels) turns end =
    (next : State) × Step setting s label next
    × (more : ℕ) × (turns ≡ turns_between heads s next + more)
    × LeadsInTurns setting heads next labels more end

-- A run from the state with these accesses returns the answer, in at most the given number of
-- turns.
pub record Answers (setting : Setting) (heads : List ℕ) (s : State) (most : ℕ) (found : List Label)
    (word : ℕ) : Type 0 where
  pub labels : List Label
  pub turns : ℕ
  pub last : State
  pub leads : LeadsInTurns setting heads s labels turns last
  pub exits : Exits setting last word
  pub few : turns ≤ most
  pub same : accesses labels ≡ found

-- A run from the state with these accesses has the given number of turns.
pub record Turns (setting : Setting) (heads : List ℕ) (s : State) (turns : ℕ) (found : List Label)
    : Type 0 where
  pub labels : List Label
  pub last : State
  pub leads : LeadsInTurns setting heads s labels turns last
  pub same : accesses labels ≡ found

-- A run from the state with the first of these accesses gets to a slot at which no instruction
-- begins.
pub record Leaves (setting : Setting) (heads : List ℕ) (s : State) (most : ℕ) (found : List Label)
    : Type 0 where
  pub labels : List Label
  pub turns : ℕ
  pub last : State
  pub leads : LeadsInTurns setting heads s labels turns last
  pub stuck : Stuck setting last Outside ⊎ Stuck setting last HalfWide
  pub few : turns ≤ most
  pub others : List Label
  pub same : accesses labels ++ others ≡ found

-- The outcome for a run of the counted code with these accesses and this word, in terms of the code
-- that begins at this state.
abbrev pub IsRunWith : Setting → List ℕ → State → (answer most : ℕ) → List Label → (word : ℕ)
    → Type 0
IsRunWith setting heads s answer most found word =
    Answers setting heads s most found word
    ⊎ (((word ≡ answer) × Turns setting heads s (most + 1) found)
    ⊎ Leaves setting heads s most found)

abbrev pub IsRun : Setting → List ℕ → State → (answer most : ℕ) → List Label → (word : ℕ) → Type 0
IsRun setting heads s answer most labels word =
    IsRunWith setting heads s answer most (accesses labels) word

-- Each run of counted code is one of the code, with the same answer; or it returns the chosen
-- answer, after the code has taken one turn more than are counted; or the code leaves its
-- instructions.
abbrev pub CountedRunsAreRuns : Type 0
CountedRunsAreRuns = (answer turns : ℕ) (heads : List ℕ) (code counted : List Slot)
    → IsCode code → IsCode counted → IsCounted answer turns heads code counted
    → (hook : Hook) (input : Given) (n : ℕ) (labels : List Label) (word : ℕ)
    → Ends (setting_of counted hook input) n labels word
    → IsRun (setting_of code hook input) heads start answer turns labels word

-- ---- code that stays inside of itself

-- the outcome without the last case
abbrev pub IsRunInside : Setting → List ℕ → State → (answer most : ℕ) → List Label → (word : ℕ)
    → Type 0
IsRunInside setting heads s answer most labels word =
    Answers setting heads s most (accesses labels) word
    ⊎ ((word ≡ answer) × Turns setting heads s (most + 1) (accesses labels))

pub record CodeThatStaysInsideIsNeverLeft : Type 0 where
  -- if each instruction of the code leads to others of it, the code never leaves its instructions
  pub of_code : (answer turns : ℕ) (heads : List ℕ) (code counted : List Slot)
      → IsCode code → StaysInside code → IsCode counted
      → IsCounted answer turns heads code counted
      → (hook : Hook) (input : Given) (n : ℕ) (labels : List Label) (word : ℕ)
      → Ends (setting_of counted hook input) n labels word
      → IsRunInside (setting_of code hook input) heads start answer turns labels word
  -- so it is if `annotate` counts turns
  pub of_texts : (answer turns : ℕ) (text counted : List ℕ)
      → (counts : CountsLoops answer turns text counted)
      → (hook : Hook) (input : Given) (n : ℕ) (labels : List Label) (word : ℕ)
      → Ends (setting_of counts.counted_slots hook input) n labels word
      → IsRunInside (setting_of counts.slots hook input) counts.heads start answer turns labels word
