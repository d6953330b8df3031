use Rattle.std.proofs.Common.{◌≡◌, ◌<◌, true}
use Rattle.object.specs.Sets.{has_byte}
use Rattle.asm.proofs.Ranges.{AllIn}
use Rattle.asm.proofs.writing.end_of_range.Given as goal

-- the bytes so far are in the set
abbrev pub invariant-loop-end : goal.invariant-loop-end
invariant-loop-end l = (l.start < l.end)
    × (has_byte l.stack l.start ≡ true → AllIn l.stack l.start l.end)
