use Rattle.std.specs.FinMap as finite
use Rattle.lsdb.proofs.AllBodies.{IsWalk}
use Rattle.lsdb.proofs.keyed_bodies.bodies_of.Given as goal

abbrev pub invariant-loop-key : goal.invariant-loop-key
invariant-loop-key l =
    IsWalk l.last_type l.moment (finite.entries l.copies.present) l.key-iterator l.bodies.items
