use Rattle.std.proofs.Common.{◌<◌, ℕ}
use Rattle.isa.specs.declared.instruction.Instruction.{Instruction}
use Rattle.isa.specs.Flow.{BeginsAt}
use Rattle.annotations.specs.CountedCode.{LeadsInside}
use Rattle.annotations.proofs.inside.stays_inside.Given as goal

abbrev pub invariant-loop-slot : goal.invariant-loop-slot
invariant-loop-slot l = (slot : ℕ) → slot < l.slot → (i : Instruction) → BeginsAt i l.code slot
    → LeadsInside l.code slot i
