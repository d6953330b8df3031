use Rattle.std.proofs.Common.{◌≡◌}
use Rattle.object.specs.Sets.{with_range}
use Rattle.object.proofs.stack.StackBytes.insert_range.Given as goal

abbrev pub invariant-loop-byte : goal.invariant-loop-byte
invariant-loop-byte l = l.self-inside.bytes ≡ with_range l.start l.byte l.initial.self-inside.bytes
