use Rattle.std.proofs.Common.{◌≡◌, ◌≤◌, ◌++◌, map}
use Rattle.std.specs.Prelude.{vec_len}
use Rattle.keyed_map.specs.Slots.{kept}
use Rattle.keyed_map.proofs.map.KeyedMap.first_from.Given as goal

abbrev pub invariant-loop-found : goal.invariant-loop-found
invariant-loop-found g l = record {
  keys : l.keys.items ++ map (λ e. e.0) (kept l.found-iterator)
      ≡ map (λ e. e.0) (kept l.initial.found-iterator);
  short : vec_len l.keys ≤ l.count;
}
