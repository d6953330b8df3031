use Rattle.std.proofs.Common.{◌≡◌, ℕ, ◌<◌, get_or, eqb, false}
use Rattle.elf.proofs.number.first_string.Given as goal

abbrev pub invariant-loop-i : goal.invariant-loop-i
invariant-loop-i l = (k : ℕ) → k < l.i → eqb (get_or l.bytes k 0) 0 ≡ false
