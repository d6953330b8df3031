use Rattle.keyed_map.specs.Changes.{IsFirst}
use Rattle.keyed_map.proofs.map.KeyedMap.committed_get.Given as goal

abbrev pub invariant-loop-place : goal.invariant-loop-place
invariant-loop-place g l = IsFirst l.edits l.place l.key
