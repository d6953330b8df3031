-- What holds of the step relation and of the stuck states.
use Rattle.std.specs.Prelude.{◌≡◌, ◌≢◌, ◌⊎◌, ◌↔◌, ◌<◌, ◌≤◌, ℕ, ℤ, Bool, true, false, pos, length}
use Rattle.std.specs.Prelude.{List, [], ◌∷◌, ◌++◌, map, Some}
use Rattle.isa.specs.declared.code.Slot.{Slot}
use Rattle.isa.specs.declared.code.Slot.TheVariants.{Start}
use Rattle.isa.specs.declared.instruction.Instruction.{Instruction}
use Rattle.isa.specs.declared.instruction.Instruction.TheVariants.{Arithmetic, Call, Exit}
use Rattle.isa.specs.declared.instruction.Width.TheVariants.{Bits64}
use Rattle.isa.specs.declared.instruction.Operation.TheVariants.{Move}
use Rattle.isa.specs.declared.instruction.Source.TheVariants.{Immediate}
use Rattle.isa.specs.declared.hook.Hook.{Hook}
use Rattle.isa.specs.declared.hook.Hook.TheVariants.{Count}
use Rattle.machine.specs.Given.{Given}
use Rattle.machine.specs.Runs.{Run, Ends, Safe}
use Rattle.machine.specs.declared.fault.Fault.{Fault}
use Rattle.machine.specs.declared.fault.Fault.TheVariants.{Helper}
use Rattle.machine.specs.declared.state.State.{State}
use Rattle.machine.specs.Input.{IsInput}
use Rattle.machine.specs.Label.{Label, Silent, Add}
use Rattle.isa.specs.Arithmetic.{widened_immediate}
use Rattle.isa.specs.Flow.{registers_read, numbers_read, register_written, slot_after, jump_target}
use Rattle.machine.specs.declared.state.Content.{Content}
use Rattle.machine.specs.declared.state.Content.TheVariants.{Number}
use Rattle.machine.specs.State.{Setting, setting_of, held}
use Rattle.machine.specs.Steps.{Does, Step, Exits, IsAt}
use Rattle.machine.specs.Faults.{Stuck, commits, fault_at, fault_number, reads}

-- A state is in at most one of three conditions: it steps, it is at EXIT with an answer, it is
-- stuck.
pub record GoesOneWay : Type 0 where
  pub step_or_stuck : (setting : Setting) (s next : State) (label : Label) (fault : Fault)
      → Step setting s label next → Stuck setting s fault → ⊥
  pub exit_or_stuck : (setting : Setting) (s : State) (word : ℕ) (fault : Fault)
      → Exits setting s word → Stuck setting s fault → ⊥
  pub step_or_exit : (setting : Setting) (s next : State) (label : Label) (word : ℕ)
      → Step setting s label next → Exits setting s word → ⊥

-- the rank of a fault among those of an instruction: its number, but at a call Helper comes first
abbrev pub call_rank : Fault → ℕ
call_rank Helper = 0
call_rank other = fault_number other

abbrev pub rank_of : Instruction → Fault → ℕ
rank_of (Call number) fault = call_rank fault
rank_of other fault = fault_number fault

-- a fault whose condition holds while that of no fault of a lower rank does
pub record IsLeast (rank : Fault → ℕ) (committed : Fault → Bool) (fault : Fault) : Type 0 where
  pub holds : committed fault ≡ true
  pub least : (other : Fault) → rank other < rank fault → committed other ≡ false

-- Where an instruction begins, the machine is stuck for a reason if and only if it is the least one
-- whose condition holds.
abbrev pub LeastFaultCounts : Type 0
LeastFaultCounts =
    (setting : Setting) (s : State) (i : Instruction) (fault : Fault) → IsAt setting s i
    → Stuck setting s fault ↔ IsLeast (rank_of i) (commits setting s i) fault

-- a state is stuck for one reason only
abbrev pub FaultIsUnique : Type 0
FaultIsUnique =
    (setting : Setting) (s : State) (a b : Fault) → Stuck setting s a → Stuck setting s b → a ≡ b

-- an answer is unique too
abbrev pub AnswerIsUnique : Type 0
AnswerIsUnique =
    (setting : Setting) (s : State) (a b : ℕ) → Exits setting s a → Exits setting s b → a ≡ b

-- the label determines the next state
abbrev pub LabelDeterminesNext : Type 0
LabelDeterminesNext =
    (setting : Setting) (s : State) (label : Label) (a b : State) → Step setting s label a
    → Step setting s label b → a ≡ b

-- a state at which the machine is stuck, or steps, or is at EXIT with an answer
abbrev pub IsStuckOrGoesOn : Setting → State → Type 0
IsStuckOrGoesOn setting s =
    ((fault : Fault) × Stuck setting s fault) ⊎
    (((label : Label) × (next : State) × Step setting s label next)
    ⊎ ((word : ℕ) × Exits setting s word))

-- Each state with a whole stack is of this kind.
abbrev pub StatesGoOn : Type 0
StatesGoOn =
    (setting : Setting) (s : State) → IsInput setting.input → length s.stack ≡ 512
    → IsStuckOrGoesOn setting s

-- Each state that a run reaches is of this kind.
abbrev pub RunsGoOn : Type 0
RunsGoOn =
    (setting : Setting) (n : ℕ) (labels : List Label) (s : State) → IsInput setting.input
    → Run setting n labels s → IsStuckOrGoesOn setting s

-- r1 = 5; r2 = 3; call 1; exit: four instructions, which add 3 to counter 5 and answer 0
abbrev pub adding : Given → Setting
adding input = record {
  code =
      Start (Arithmetic Bits64 Move 1 (Immediate (pos 5)))
      ∷ Start (Arithmetic Bits64 Move 2 (Immediate (pos 3))) ∷ Start (Call (pos 1)) ∷ Start Exit
      ∷ [];
  hook = Count;
  input = input;
}

abbrev pub AddingEnds : Type 0
AddingEnds = (input : Given) → Ends (adding input) 4 (Silent ∷ Silent ∷ Add 5 3 ∷ []) 0

-- Whether the machine is stuck at a state, and why, doesn't depend on the input.
abbrev pub FaultIgnoresInput : Type 0
FaultIgnoresInput = (code : List Slot) (hook : Hook) (a b : Given) (s : State)
    → fault_at (setting_of code hook a) s ≡ fault_at (setting_of code hook b) s

-- Each run of a safe program, on an input in its ranges, goes on to an end within its number of
-- instructions, whatever it was answered until then.
abbrev pub SafeRunsEnd : Type 0
SafeRunsEnd = (code : List Slot) (hook : Hook) (most : ℕ) (input : Given)
    → Safe code hook most → IsInput input
    → (m : ℕ) (labels : List Label) (s : State) → Run (setting_of code hook input) m labels s
    → (n : ℕ) × (more : List Label) × (word : ℕ)
    × Ends (setting_of code hook input) n (labels ++ more) word × (n ≤ most)

-- The labels of a run determine its answer.
abbrev pub LabelsDetermineAnswer : Type 0
LabelsDetermineAnswer = (setting : Setting) (n m : ℕ) (labels : List Label) (a b : ℕ)
    → Ends setting n labels a → Ends setting m labels b → a ≡ b

-- `exit` alone is safe for no number: r0 is empty there.
abbrev pub EmptyExitIsUnsafe : Type 0
EmptyExitIsUnsafe = (hook : Hook) (most : ℕ) → Safe (Start Exit ∷ []) hook most → ⊥

abbrev pub number_content : ℤ → Content
number_content number = Number (widened_immediate number)

-- What an instruction other than a CALL reads is what its registers hold, followed by its number,
-- if it has one.
abbrev pub ReadsAreOfRegisters : Type 0
ReadsAreOfRegisters =
    (setting : Setting) (s : State) (i : Instruction) → ((number : ℤ) → i ≢ Call number)
    → reads setting s i ≡ map (held s) (registers_read i) ++ map number_content (numbers_read i)

-- A step of an instruction other than a CALL leaves each register unchanged but the one that the
-- instruction names as its target.
abbrev pub StepsWriteTheirTarget : Type 0
StepsWriteTheirTarget =
    (setting : Setting) (s next : State) (label : Label) (i : Instruction) (register : ℕ)
    → ((number : ℤ) → i ≢ Call number) → register_written i ≢ Some register
    → Does i setting s label next → held next register ≡ held s register

-- A step leads to the slot after its instruction, or to the target of its jump.
abbrev pub StepsLeadByCode : Type 0
StepsLeadByCode = (setting : Setting) (s next : State) (label : Label) (i : Instruction)
    → Does i setting s label next
    → (next.slot ≡ slot_after s.slot i) ⊎ (jump_target s.slot i ≡ Some next.slot)
