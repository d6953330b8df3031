use Rattle.keyed_map.proofs.Changes.{AllKeep}
use Rattle.keyed_map.proofs.map.KeyedMap.keeps.Given as goal

abbrev pub invariant-loop-place : goal.invariant-loop-place
invariant-loop-place g l = AllKeep (g.T.ChangeTest.same l.test) l.self.present l.edits l.place
