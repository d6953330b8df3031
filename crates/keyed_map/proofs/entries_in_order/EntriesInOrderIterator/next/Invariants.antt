use Rattle.std.proofs.Common.{◌≡◌, length}
use Rattle.keyed_map.specs.Slots.{kept}
use Rattle.keyed_map.proofs.entries_in_order.EntriesInOrderIterator.next.Given as goal

-- so far only slots of removed keys were passed
abbrev pub invariant-loop-key : goal.invariant-loop-key
invariant-loop-key g l = kept l.self-inside.slots ≡ kept l.initial.self-inside.slots

abbrev pub decreases-loop-key : goal.decreases-loop-key
decreases-loop-key g l = length l.self-inside.slots
