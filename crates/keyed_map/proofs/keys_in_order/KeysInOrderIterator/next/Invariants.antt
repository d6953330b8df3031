use Rattle.std.proofs.Common.{◌≡◌, length}
use Rattle.keyed_map.specs.Slots.{kept_keys}
use Rattle.keyed_map.proofs.keys_in_order.KeysInOrderIterator.next.Given as goal

-- so far only slots of removed keys were passed
abbrev pub invariant-loop-key : goal.invariant-loop-key
invariant-loop-key g l = kept_keys l.self-inside.slots ≡ kept_keys l.initial.self-inside.slots

abbrev pub decreases-loop-key : goal.decreases-loop-key
decreases-loop-key g l = length l.self-inside.slots
