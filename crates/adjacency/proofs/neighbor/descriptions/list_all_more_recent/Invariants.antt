use Rattle.std.proofs.Common.{◌≡◌, take}
use Rattle.std.specs.List.{fold}
use Rattle.adjacency.specs.Descriptions.{with_request}
use Rattle.adjacency.proofs.neighbor.descriptions.list_all_more_recent.Given as goal

abbrev pub invariant-loop-header : goal.invariant-loop-header
invariant-loop-header l = record {
  present : l.requests.present ≡ fold (with_request l.moment l.database.present)
      l.fn.requests.present (take l.header-index l.headers);
  committed : l.requests.committed ≡ l.fn.requests.committed;
}
