use Rattle.std.proofs.Common.{◌≡◌, ◌-◌, ◌++◌, true}
use Rattle.packet.specs.Reading.{are_lsas, lsas_of}
use Rattle.packet.proofs.reading.lsas.Given as goal

-- the LSAs taken off so far and those still to be taken off are all of them
abbrev pub invariant-loop-i : goal.invariant-loop-i
invariant-loop-i l = record {
  whole : are_lsas (l.count - l.i) l.rest ≡ true;
  all : l.lsas.items ++ lsas_of (l.count - l.i) l.rest ≡ lsas_of l.count l.bytes;
}
