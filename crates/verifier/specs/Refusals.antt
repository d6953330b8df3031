-- How the rules that concern the code and its statements alone are broken.
use Rattle.std.specs.Prelude.{◌≡◌, ◌⊎◌, ℕ, ℤ, ◌+◌, ◌*◌, ◌<◌, Bool, true, false, List, length, Some}
use Rattle.std.specs.Prelude.{None, IsSome}
use Rattle.object.specs.Statements.{StatementParts}
use Rattle.isa.specs.declared.code.Slot.{Slot}
use Rattle.isa.specs.declared.hook.Hook.{Hook}
use Rattle.isa.specs.declared.instruction.Instruction.{Instruction}
use Rattle.isa.specs.declared.instruction.Instruction.TheVariants.{Call}
use Rattle.isa.specs.Flow.{Begins, BeginsAt, jump_target, slot_after}
use Rattle.machine.specs.Helpers.{helper_of}
use Rattle.machine.specs.Faults.{writes_frame}
use Rattle.transfer.specs.declared.rule.Rule.{Rule}
use Rattle.transfer.specs.declared.rule.Rule.TheVariants as rules
use Rattle.transfer.specs.Rules.{LacksHelper}
use Rattle.verifier.specs.Places.{falls_through}
use Rattle.verifier.specs.SegmentsStated.{statement_at}

-- the maximum number of instructions that a run may execute
abbrev pub budget : ℕ
budget = 1000000

-- ---- rule 1: a jump to, or a statement for, a slot where no instruction begins

-- the instruction at the slot jumps to where none begins
pub record JumpsNowhere (code : List Slot) (slot : ℕ) : Type 0 where
  pub instruction : Instruction
  pub at : BeginsAt instruction code slot
  pub to : ℕ
  pub jumps : jump_target slot instruction ≡ Some to
  pub nowhere : Begins code to → ⊥

-- a statement is for the slot, and no instruction begins there
pub record IsStray (code : List Slot) (statements : List StatementParts) (slot : ℕ) : Type 0 where
  pub stated : IsSome (statement_at statements slot)
  pub nowhere : Begins code slot → ⊥

abbrev pub IsBadTarget : List Slot → List StatementParts → ℕ → Type 0
IsBadTarget code statements slot = JumpsNowhere code slot ⊎ IsStray code statements slot

-- ---- rule 2: the last instruction is neither EXIT nor an unconditional jump

pub record FallsOff (code : List Slot) (slot : ℕ) : Type 0 where
  pub instruction : Instruction
  pub at : BeginsAt instruction code slot
  pub last : slot_after slot instruction ≡ length code
  pub on : falls_through instruction ≡ true

-- ---- rule 3: an unstated slot after EXIT or an unconditional jump

-- the instruction that ends at the slot is EXIT or an unconditional jump
pub record IsCutOff (code : List Slot) (slot : ℕ) : Type 0 where
  pub before : ℕ
  pub instruction : Instruction
  pub at : BeginsAt instruction code before
  pub behind : slot_after before instruction ≡ slot
  pub leaves : falls_through instruction ≡ false

pub record IsUnreached (code : List Slot) (statements : List StatementParts)
    (slot : ℕ) : Type 0 where
  pub begins : Begins code slot
  pub cut_off : IsCutOff code slot
  pub unstated : statement_at statements slot ≡ None

-- ---- rule 4: a jump to a slot without a statement

pub record IsUnstated (code : List Slot) (statements : List StatementParts)
    (slot : ℕ) : Type 0 where
  pub instruction : Instruction
  pub at : BeginsAt instruction code slot
  pub to : ℕ
  pub jumps : jump_target slot instruction ≡ Some to
  pub unstated : statement_at statements to ≡ None

-- ---- rules 9, 13 and 15

-- the hook has no helper with the number of the call at the slot
pub record LacksHelperAt (code : List Slot) (hook : Hook) (slot : ℕ) : Type 0 where
  pub number : ℤ
  pub at : BeginsAt (Call number) code slot
  pub none : helper_of hook number ≡ None

-- the code's slots, times the rank at the entry plus 1, exceed the budget
pub record IsOverBudget (code : List Slot) (entry_rank slot : ℕ) : Type 0 where
  pub first : slot ≡ 0
  pub over : budget < (entry_rank + 1) * length code

-- the instruction at the slot writes r10
pub record WritesFrame (code : List Slot) (slot : ℕ) : Type 0 where
  pub instruction : Instruction
  pub at : BeginsAt instruction code slot
  pub writes : writes_frame instruction ≡ true

-- ---- all rules

-- The program may be refused by the rule at the slot. Of the other rules only that an instruction
-- begins there is said; a refused allocation is reported at slot 0.
abbrev pub MayRefuse : Hook → List Slot → ℕ → List StatementParts → ℕ → Rule → Type 0
MayRefuse hook code entry_rank statements slot rules.Target = IsBadTarget code statements slot
MayRefuse hook code entry_rank statements slot rules.FallsOff = FallsOff code slot
MayRefuse hook code entry_rank statements slot rules.Unreached = IsUnreached code statements slot
MayRefuse hook code entry_rank statements slot rules.Unstated = IsUnstated code statements slot
MayRefuse hook code entry_rank statements slot rules.Helper = LacksHelperAt code hook slot
MayRefuse hook code entry_rank statements slot rules.Budget = IsOverBudget code entry_rank slot
MayRefuse hook code entry_rank statements slot rules.Frame = WritesFrame code slot
MayRefuse hook code entry_rank statements slot rules.Memory = slot ≡ 0
MayRefuse hook code entry_rank statements slot other = Begins code slot

-- ---- the order

-- the slot follows the rules on jumps, statements and the code's end
pub record IsWellMade (code : List Slot) (statements : List StatementParts)
    (slot : ℕ) : Type 0 where
  pub target : IsBadTarget code statements slot → ⊥
  pub ends : FallsOff code slot → ⊥
  pub reached : IsUnreached code statements slot → ⊥
  pub stated : IsUnstated code statements slot → ⊥

-- The slot follows those of these rules that are checked before this one. A rule on edges may be
-- reported at slot 0 because of the edge from the entry to a statement there, which is checked
-- before that slot's own rules.
abbrev pub IsFirstHere : List Slot → List StatementParts → ℕ → Rule → Type 0
IsFirstHere code statements slot rules.Target = Unit {0}
IsFirstHere code statements slot rules.FallsOff = IsBadTarget code statements slot → ⊥
IsFirstHere code statements slot rules.Unreached =
    (IsBadTarget code statements slot → ⊥) × (FallsOff code slot → ⊥)
IsFirstHere code statements slot rules.Unstated =
    (IsBadTarget code statements slot → ⊥) × (FallsOff code slot → ⊥)
    × (IsUnreached code statements slot → ⊥)
IsFirstHere code statements slot rules.NotWithin = 0 < slot → IsWellMade code statements slot
IsFirstHere code statements slot rules.Rank = 0 < slot → IsWellMade code statements slot
IsFirstHere code statements slot rules.Budget = Unit {0}
IsFirstHere code statements slot rules.Memory = Unit {0}
IsFirstHere code statements slot other = IsWellMade code statements slot

-- and the slots before follow all of them
pub record IsFirst (code : List Slot) (statements : List StatementParts) (slot : ℕ)
    (rule : Rule) : Type 0 where
  pub earlier : (before : ℕ) → before < slot → IsWellMade code statements before
  pub here : IsFirstHere code statements slot rule

-- ---- what is found at a slot

-- whether the instruction that ends at the slot may fall through to it; the entry leads to the
-- first slot
abbrev pub IsPassedTo : Bool → List Slot → ℕ → Type 0
IsPassedTo true code slot = IsCutOff code slot → ⊥
IsPassedTo false code slot = IsCutOff code slot

-- the slot breaks a rule on jumps, statements or the code's end, and follows those that are checked
-- before
abbrev pub IsPlaceRefusal : List Slot → List StatementParts → ℕ → Rule → Type 0
IsPlaceRefusal code statements slot rules.Target = IsBadTarget code statements slot
IsPlaceRefusal code statements slot rules.FallsOff =
    FallsOff code slot × IsFirstHere code statements slot rules.FallsOff
IsPlaceRefusal code statements slot rules.Unreached =
    IsUnreached code statements slot × IsFirstHere code statements slot rules.Unreached
IsPlaceRefusal code statements slot rules.Unstated =
    IsUnstated code statements slot × IsFirstHere code statements slot rules.Unstated
IsPlaceRefusal code statements slot other = ⊥

-- a rule on edges
abbrev pub IsOfEdge : Rule → Type 0
IsOfEdge rules.NotWithin = Unit {0}
IsOfEdge rules.Rank = Unit {0}
IsOfEdge other = ⊥

-- An instruction may be refused by the rule if its slot is well made: by those on helpers and on
-- r10 only if they are broken, and by none on jumps, statements, the bound and memory.
abbrev pub MayRefuseInstruction : Hook → Instruction → Rule → Type 0
MayRefuseInstruction hook instruction rules.Helper = LacksHelper hook instruction
MayRefuseInstruction hook instruction rules.Frame = writes_frame instruction ≡ true
MayRefuseInstruction hook instruction rules.Target = ⊥
MayRefuseInstruction hook instruction rules.FallsOff = ⊥
MayRefuseInstruction hook instruction rules.Unreached = ⊥
MayRefuseInstruction hook instruction rules.Unstated = ⊥
MayRefuseInstruction hook instruction rules.Budget = ⊥
MayRefuseInstruction hook instruction rules.Memory = ⊥
MayRefuseInstruction hook instruction other = Unit {0}
