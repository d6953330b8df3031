use Rattle.std.proofs.Common.{◌≡◌, ℕ, ◌-◌, ◌^◌, ◌<◌, ◌≤◌, List, length, drop, map}
use Rattle.machine.specs.declared.state.StackByte.TheVariants.{Byte}
use Rattle.machine.specs.Memory.{number_of}
use Rattle.interp.proofs.pieces.number_in.Given as goal

-- the stack bytes from `at` on spell the number
abbrev pub invariant-loop-at : goal.invariant-loop-at
invariant-loop-at l =
    (l.at ≤ length l.found) × (l.number < 256 ^ (length l.found - l.at))
    × ((bytes : List ℕ) × (drop l.at l.found ≡ map Byte bytes) × (l.number ≡ number_of bytes))

abbrev pub decreases-loop-at : goal.decreases-loop-at
decreases-loop-at l = l.at
