use Rattle.std.proofs.Common.{◌≡◌, ◌*◌, ◌++◌, take}
use Rattle.object.specs.Packing.{packed_bits}
use Rattle.object.proofs.stack.StackBytes.pack.Given as goal

abbrev pub invariant-loop-byte : goal.invariant-loop-byte
invariant-loop-byte l = l.out.items ≡ l.initial.out.items
    ++ packed_bits (take (8 * l.byte) l.self-inside.bytes)
