use Rattle.std.proofs.Common.{◌≡◌, length}
use Rattle.std.specs.Vec.Iter.{into_iter_items, into_iter_len}
use Rattle.router.specs.Fillings.{IsPackedSoFar}
use Rattle.router.proofs.packing.packed.Given as goal

abbrev pub invariant-loop-item : goal.invariant-loop-item
invariant-loop-item g l =
    (goal.iterator-loop-item g).can_next l.item-iterator
    × (goal.iterator-loop-item g).is_finite l.item-iterator
    × IsPackedSoFar g.X.HasSize.size l.start (into_iter_items l.initial.item-iterator)
    l.filling.start l.filling.used l.filling.packets.items l.filling.taken.items
    (into_iter_items l.item-iterator)
    × (into_iter_len l.item-iterator ≡ length (into_iter_items l.item-iterator))
