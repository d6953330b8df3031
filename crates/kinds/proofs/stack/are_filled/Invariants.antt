use Rattle.std.proofs.Common.{◌≢◌, ℕ, ◌<◌, ◌≤◌, List, get_or}
use Rattle.machine.specs.declared.state.StackByte.{StackByte}
use Rattle.machine.specs.declared.state.StackByte.TheVariants.{Nothing}
use Rattle.kinds.specs.declared.state.StackEntry.TheVariants.{Unknown}
use Rattle.kinds.specs.Filled.{IsKnownFilled}
use Rattle.kinds.specs.Meaning.{StackHolds, stack_byte}
use Rattle.kinds.proofs.stack.are_filled.Given as goal

-- each byte so far is known not to be empty
abbrev pub invariant-loop-at : goal.invariant-loop-at
invariant-loop-at g l =
    ((stack : List StackByte) → StackHolds g.D.Domain.contains l.entries stack → (at : ℕ)
    → l.start ≤ at → at < l.at → stack_byte stack at ≢ Nothing)
    × ((at : ℕ) → l.start ≤ at → at < l.at → IsKnownFilled (get_or l.entries at Unknown))
