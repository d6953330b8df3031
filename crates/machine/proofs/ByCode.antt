-- What the code alone says of reads, and of where a step leads.
use Rattle.std.proofs.Common.{◌≡◌, ℕ, ℤ, Bool, true, false, Some, ◌++◌, map, inl}
use Rattle.std.proofs.Common.{inr, ◌⊎◌, refl, ap, sym, ◌∙◌}
use Rattle.isa.specs.declared.instruction.Instruction.TheVariants as instructions
use Rattle.isa.specs.declared.instruction.Operation.{Operation}
use Rattle.isa.specs.declared.instruction.Operation.TheVariants as operations
use Rattle.isa.specs.declared.instruction.Source.{Source}
use Rattle.isa.specs.declared.instruction.Source.TheVariants as sources
use Rattle.isa.specs.Flow.{operation_registers, source_numbers}
use Rattle.isa.specs.Flow.{slot_at_distance}
use Rattle.std.specs.Prelude.{◌≢◌, ◌+◌, if◌then◌else◌}
use Rattle.machine.specs.declared.state.State.{State}
use Rattle.machine.specs.State.{held, operand, moved_on, with_register, after_jump}
use Rattle.machine.specs.Faults.{operation_reads}
use Rattle.std.proofs.lemmas.List.{get_or-set_other}
use Rattle.machine.specs.declared.state.Content.{Content}
use Rattle.machine.specs.declared.state.Content.TheVariants.{Nothing}
use Rattle.machine.specs.Laws.{ReadsAreOfRegisters, StepsLeadByCode, StepsWriteTheirTarget}
use Rattle.machine.specs.Laws.{number_content}

operands_read : (s : State) (operation : Operation) (target : ℕ) (source : Source)
    → operation_reads operation (held s target) (operand s source)
    ≡ map (held s) (operation_registers operation target source)
    ++ map number_content (source_numbers source)
operands_read s operations.Add t (sources.Immediate n) = refl
operands_read s operations.Add t (sources.Register r) = refl
operands_read s operations.Subtract t (sources.Immediate n) = refl
operands_read s operations.Subtract t (sources.Register r) = refl
operands_read s operations.Multiply t (sources.Immediate n) = refl
operands_read s operations.Multiply t (sources.Register r) = refl
operands_read s operations.Divide t (sources.Immediate n) = refl
operands_read s operations.Divide t (sources.Register r) = refl
operands_read s operations.SignedDivide t (sources.Immediate n) = refl
operands_read s operations.SignedDivide t (sources.Register r) = refl
operands_read s operations.Or t (sources.Immediate n) = refl
operands_read s operations.Or t (sources.Register r) = refl
operands_read s operations.And t (sources.Immediate n) = refl
operands_read s operations.And t (sources.Register r) = refl
operands_read s operations.ShiftLeft t (sources.Immediate n) = refl
operands_read s operations.ShiftLeft t (sources.Register r) = refl
operands_read s operations.ShiftRight t (sources.Immediate n) = refl
operands_read s operations.ShiftRight t (sources.Register r) = refl
operands_read s operations.Modulo t (sources.Immediate n) = refl
operands_read s operations.Modulo t (sources.Register r) = refl
operands_read s operations.SignedModulo t (sources.Immediate n) = refl
operands_read s operations.SignedModulo t (sources.Register r) = refl
operands_read s operations.Xor t (sources.Immediate n) = refl
operands_read s operations.Xor t (sources.Register r) = refl
operands_read s operations.Move t (sources.Immediate n) = refl
operands_read s operations.Move t (sources.Register r) = refl
operands_read s operations.ArithmeticShiftRight t (sources.Immediate n) = refl
operands_read s operations.ArithmeticShiftRight t (sources.Register r) = refl

pub reads_are : ReadsAreOfRegisters
reads_are setting s (instructions.Arithmetic w o t x) other = operands_read s o t x
reads_are setting s (instructions.Negate w t) other = refl
reads_are setting s (instructions.SignExtend e t x) other = refl
reads_are setting s (instructions.Reorder o w t) other = refl
reads_are setting s (instructions.Jump d) other = refl
reads_are setting s (instructions.LongJump d) other = refl
reads_are setting s (instructions.Branch w t l (sources.Immediate n) d) other = refl
reads_are setting s (instructions.Branch w t l (sources.Register r) d) other = refl
reads_are setting s (instructions.Call n) other = absurd (other n refl)
reads_are setting s instructions.Exit other = refl
reads_are setting s (instructions.Load z t x o) other = refl
reads_are setting s (instructions.Store z x o (sources.Immediate n)) other = refl
reads_are setting s (instructions.Store z x o (sources.Register r)) other = refl
reads_are setting s (instructions.LoadNumber t n) other = refl
reads_are setting s (instructions.LoadMap t m o) other = refl

slot_of : (next there : State) → next ≡ there → next.slot ≡ there.slot
slot_of next there e = ap (λ (z : State). z.slot) e

branched : (s next : State) (distance : ℤ) (taken : Bool)
    → next ≡ (if taken then after_jump s distance else moved_on s)
    → (next.slot ≡ s.slot + 1) ⊎ (Some (slot_at_distance s.slot distance) ≡ Some next.slot)
branched s next distance true e = inr (ap Some (sym (slot_of next (after_jump s distance) e)))
branched s next distance false e = inl (slot_of next (moved_on s) e)

pub steps_lead : StepsLeadByCode
steps_lead setting s next label (instructions.Arithmetic w o t x) does =
    inl (ap (λ (z : State). z.slot) does.after)
steps_lead setting s next label (instructions.Negate w t) does =
    inl (ap (λ (z : State). z.slot) does.after)
steps_lead setting s next label (instructions.SignExtend e t x) does =
    inl (ap (λ (z : State). z.slot) does.after)
steps_lead setting s next label (instructions.Reorder o w t) does =
    inl (ap (λ (z : State). z.slot) does.after)
steps_lead setting s next label (instructions.Jump d) does =
    inr (ap Some (sym (slot_of next (after_jump s d) does.after)))
steps_lead setting s next label (instructions.LongJump d) does =
    inr (ap Some (sym (slot_of next (after_jump s d) does.after)))
steps_lead setting s next label (instructions.Branch w t l r d) does =
    branched s next d does.taken does.after
steps_lead setting s next label (instructions.Call n) does =
    inl (ap (λ (z : State). z.slot) does.after)
steps_lead setting s next label instructions.Exit does = absurd does
steps_lead setting s next label (instructions.Load z t x o) does =
    inl (ap (λ (z : State). z.slot) does.5)
steps_lead setting s next label (instructions.Store z x o y) does =
    inl (ap (λ (z : State). z.slot) does.4)
steps_lead setting s next label (instructions.LoadNumber t n) does =
    inl (ap (λ (z : State). z.slot) does.2)
steps_lead setting s next label (instructions.LoadMap t m o) does =
    inl (ap (λ (z : State). z.slot) does.4)

-- a register other than the one that is filled
kept : (s : State) (target register : ℕ) (content : Content) → Some target ≢ Some register
    → held (with_register s target content) register ≡ held s register
kept s target register content other =
    get_or-set_other s.registers target register content Nothing (λ e. other (ap Some (sym e)))

held_alike : (next there : State) (register : ℕ) → next ≡ there
    → held next register ≡ held there register
held_alike next there register e = ap (λ (z : State). held z register) e

branch_keeps : (s next : State) (distance : ℤ) (register : ℕ) (taken : Bool)
    → next ≡ (if taken then after_jump s distance else moved_on s)
    → held next register ≡ held s register
branch_keeps s next distance register true e = held_alike next (after_jump s distance) register e
branch_keeps s next distance register false e = held_alike next (moved_on s) register e

pub target_alone : StepsWriteTheirTarget
target_alone setting s next label (instructions.Arithmetic w o t x) r not other does =
    held_alike next (with_register s t does.filling) r does.after ∙ kept s t r does.filling other
target_alone setting s next label (instructions.Negate w t) r not other does =
    held_alike next (with_register s t does.filling) r does.after ∙ kept s t r does.filling other
target_alone setting s next label (instructions.SignExtend e t x) r not other does =
    held_alike next (with_register s t does.filling) r does.after ∙ kept s t r does.filling other
target_alone setting s next label (instructions.Reorder o w t) r not other does =
    held_alike next (with_register s t does.filling) r does.after ∙ kept s t r does.filling other
target_alone setting s next label (instructions.Jump d) r not other does =
    held_alike next (after_jump s d) r does.after
target_alone setting s next label (instructions.LongJump d) r not other does =
    held_alike next (after_jump s d) r does.after
target_alone setting s next label (instructions.Branch w t l x d) r not other does =
    branch_keeps s next d r does.taken does.after
target_alone setting s next label (instructions.Call n) r not other does = absurd (not n refl)
target_alone setting s next label instructions.Exit r not other does = absurd does
target_alone setting s next label (instructions.Load z t x o) r not other does =
    held_alike next (with_register s t does.2) r does.5 ∙ kept s t r does.2 other
target_alone setting s next label (instructions.Store z x o y) r not other does =
    ap (λ (z : State). held z r) does.4
target_alone setting s next label (instructions.LoadNumber t n) r not other does =
    ap (λ (z : State). held z r) does.2 ∙ kept s t r _ other
target_alone setting s next label (instructions.LoadMap t m o) r not other does =
    ap (λ (z : State). held z r) does.4 ∙ kept s t r _ other
