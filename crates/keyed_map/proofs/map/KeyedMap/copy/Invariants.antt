use Rattle.std.proofs.Common.{◌≡◌}
use Rattle.std.specs.FinMap as finite
use Rattle.keyed_map.specs.Slots.{kept, live, slots_of}
use Rattle.keyed_map.proofs.Orders.{filled}
use Rattle.keyed_map.proofs.map.KeyedMap.copy.Given as goal

abbrev pub invariant-loop-key : goal.invariant-loop-key
invariant-loop-key g l = filled (live (slots_of l.slots.entries)) (kept l.key-iterator)
    ≡ filled finite.empty (kept l.initial.key-iterator)
