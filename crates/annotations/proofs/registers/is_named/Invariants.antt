use Rattle.std.proofs.Common.{◌≡◌, ℕ, ◌<◌, false, slice_get, Some}
use Rattle.isa.specs.declared.instruction.Instruction.{Instruction}
use Rattle.isa.specs.declared.code.Slot.TheVariants.{Start}
use Rattle.annotations.specs.CountedCode.{names}
use Rattle.annotations.proofs.registers.is_named.Given as goal

abbrev pub invariant-loop-slot : goal.invariant-loop-slot
invariant-loop-slot l = (k : ℕ) (i : Instruction) → k < l.slot-index
    → slice_get l.slot-items k ≡ Some (Start i)
    → names l.register i ≡ false
