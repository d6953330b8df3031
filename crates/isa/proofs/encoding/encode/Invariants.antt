use Rattle.std.proofs.Common.{◌≡◌, take}
use Rattle.std.specs.List.{flat_map}
use Rattle.isa.proofs.SlotBytes.{bytes_at}
use Rattle.isa.proofs.encoding.encode.Given as goal

abbrev pub invariant-loop-slot : goal.invariant-loop-slot
invariant-loop-slot l = l.bytes.items ≡ flat_map bytes_at (take l.slot-index l.slots)
