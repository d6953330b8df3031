use Rattle.std.proofs.Common.{◌≡◌}
use Rattle.std.specs.Prelude.{vec_len}
use Rattle.std.specs.FinMap as map
use Rattle.keyed_map.specs.Slots.{AllFit, live, slots_of, undone}
use Rattle.keyed_map.proofs.map.KeyedMap.roll_back.Given as goal

-- undoing the remaining edits restores the committed map
abbrev pub invariant-loop-edit : goal.invariant-loop-edit
invariant-loop-edit g l = record {
  fit : AllFit l.self-inside.edits.items (slots_of l.self-inside.slots.entries);
  committed : live (undone l.self-inside.edits.items (slots_of l.self-inside.slots.entries))
      ≡ l.fn.self.committed;
  len : l.self-inside.committed_len ≡ map.len l.fn.self.committed;
}

abbrev pub decreases-loop-edit : goal.decreases-loop-edit
decreases-loop-edit g l = vec_len l.self-inside.edits
