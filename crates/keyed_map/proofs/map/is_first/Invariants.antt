use Rattle.keyed_map.specs.Changes.{IsFirst}
use Rattle.keyed_map.proofs.map.is_first.Given as goal

abbrev pub invariant-loop-at : goal.invariant-loop-at
invariant-loop-at g l = IsFirst l.edits l.at l.key
