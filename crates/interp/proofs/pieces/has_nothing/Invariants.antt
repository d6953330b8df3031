use Rattle.std.proofs.Common.{◌≡◌, ℕ, ◌<◌, get_or, false}
use Rattle.machine.specs.declared.state.StackByte.TheVariants.{Nothing}
use Rattle.machine.specs.Faults.{is_nothing_byte}
use Rattle.interp.proofs.pieces.has_nothing.Given as goal

-- those before the index aren't empty
abbrev pub invariant-loop-byte : goal.invariant-loop-byte
invariant-loop-byte l = (i : ℕ) → i < l.byte-index
    → is_nothing_byte (get_or l.found i Nothing) ≡ false
