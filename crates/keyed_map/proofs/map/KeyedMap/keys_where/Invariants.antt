use Rattle.std.proofs.Common.{◌≡◌, ◌++◌}
use Rattle.keyed_map.specs.Slots.{kept, keys_where}
use Rattle.keyed_map.proofs.map.KeyedMap.keys_where.Given as goal

abbrev pub invariant-loop-key : goal.invariant-loop-key
invariant-loop-key g l =
    l.keys.items ++ keys_where (g.T.KeyTest.accepts l.test) (kept l.key-iterator)
    ≡ keys_where (g.T.KeyTest.accepts l.test) (kept l.initial.key-iterator)
