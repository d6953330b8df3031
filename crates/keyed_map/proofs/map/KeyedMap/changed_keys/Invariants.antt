use Rattle.keyed_map.proofs.Changes.{AllKeep, Differ, Outside}
use Rattle.keyed_map.proofs.map.KeyedMap.changed_keys.Given as goal

abbrev pub invariant-loop-place : goal.invariant-loop-place
invariant-loop-place g l = record {
  changed : Differ (g.T.ChangeTest.same l.test) l.self.committed l.self.present l.keys.items;
  others : AllKeep (Outside l.keys.items (g.T.ChangeTest.same l.test)) l.self.present l.edits
      l.place;
}
