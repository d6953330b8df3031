use Rattle.std.proofs.Common.{◌≡◌}
use Rattle.words.specs.Interfaces.{has_interface}
use Rattle.machine.proofs.Places.{from}
use Rattle.machine.proofs.routes.first_hop.Given as goal

abbrev pub invariant-loop-interface : goal.invariant-loop-interface
invariant-loop-interface l = from (has_interface l.hops) 0 ≡ from (has_interface l.hops) l.interface
