use Rattle.std.proofs.Common.{◌≡◌, ◌++◌, length}
use Rattle.std.specs.Vec.Iter.{into_iter_items, into_iter_len}
use Rattle.router.specs.Bodies.{texts}
use Rattle.router.proofs.bodies.texts.Given as goal

abbrev pub invariant-loop-update : goal.invariant-loop-update
invariant-loop-update l =
    (l.made.items ++ texts (into_iter_items l.update-iterator)
    ≡ texts (into_iter_items l.initial.update-iterator))
    × (into_iter_len l.update-iterator ≡ length (into_iter_items l.update-iterator))
