use Rattle.std.proofs.Common.{◌≡◌, ◌-◌}
use Rattle.packet.specs.Reading.{are_lsas}
use Rattle.packet.proofs.judging.are_lsas.Given as goal

abbrev pub invariant-loop-i : goal.invariant-loop-i
invariant-loop-i l = are_lsas (l.count - l.i) l.rest ≡ are_lsas l.count l.bytes
