use Rattle.std.proofs.Common.{◌≡◌, length}
use Rattle.object.proofs.Packing.{AreBitsOf}
use Rattle.object.proofs.stack.StackBytes.unpack.Given as goal

abbrev pub invariant-loop-byte : goal.invariant-loop-byte
invariant-loop-byte l = record { long : length l.set ≡ 512; bits : AreBitsOf l.set l.bytes l.byte }
