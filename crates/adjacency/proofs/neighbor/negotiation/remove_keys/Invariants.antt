use Rattle.std.proofs.Common.{◌≡◌, take}
use Rattle.std.specs.FinMap as finite
use Rattle.std.specs.List.{fold}
use Rattle.adjacency.proofs.neighbor.negotiation.remove_keys.Given as goal

abbrev pub invariant-loop-key : goal.invariant-loop-key
invariant-loop-key l = record {
  present : l.list.present ≡ fold finite.remove l.fn.list.present (take l.key-index l.keys);
  committed : l.list.committed ≡ l.fn.list.committed;
}
