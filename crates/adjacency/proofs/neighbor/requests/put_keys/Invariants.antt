use Rattle.std.proofs.Common.{◌≡◌, take}
use Rattle.std.specs.FinSet as set
use Rattle.adjacency.specs.Views.{keys_of}
use Rattle.adjacency.proofs.neighbor.requests.put_keys.Given as goal

abbrev pub invariant-loop-key : goal.invariant-loop-key
invariant-loop-key l = record {
  present : keys_of l.keys_set.present ≡ set.from_list (take l.key-index l.keys);
  committed : l.keys_set.committed ≡ l.fn.keys_set.committed;
}
