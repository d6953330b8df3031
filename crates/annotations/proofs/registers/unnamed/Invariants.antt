use Rattle.std.proofs.Common.{◌<◌, ◌≤◌, ℕ}
use Rattle.annotations.specs.CountedCode.{IsUnnamed}
use Rattle.annotations.proofs.registers.unnamed.Given as goal

abbrev pub invariant-loop-number : goal.invariant-loop-number
invariant-loop-number l = (register : ℕ) → register < l.number → 6 ≤ register
    → IsUnnamed l.code register → ⊥
