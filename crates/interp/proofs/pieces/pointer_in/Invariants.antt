use Rattle.std.proofs.Common.{◌≡◌, ℕ, ◌<◌, get_or, true}
use Rattle.machine.specs.declared.state.StackByte.TheVariants.{Nothing}
use Rattle.interp.specs.Classes.{is_piece}
use Rattle.interp.proofs.pieces.pointer_in.Given as goal

-- those before `at` are the pointer's pieces
abbrev pub invariant-loop-at : goal.invariant-loop-at
invariant-loop-at l = (i : ℕ) → i < l.at → is_piece (get_or l.found i Nothing) l.pointer i ≡ true
