use Rattle.std.proofs.Common.{◌≡◌, ◌≤◌, ◌++◌, map}
use Rattle.std.specs.Prelude.{vec_len}
use Rattle.keyed_map.specs.Slots.{kept}
use Rattle.keyed_map.proofs.map.KeyedMap.first.Given as goal

abbrev pub invariant-loop-key : goal.invariant-loop-key
invariant-loop-key g l = record {
  keys : l.keys.items ++ map (λ e. e.0) (kept l.key-iterator)
      ≡ map (λ e. e.0) (kept l.initial.key-iterator);
  short : vec_len l.keys ≤ l.count;
}
