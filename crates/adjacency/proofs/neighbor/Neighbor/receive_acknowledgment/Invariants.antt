use Rattle.std.proofs.Common.{◌≡◌, take}
use Rattle.adjacency.specs.Retransmissions.{after_acknowledgment}
use Rattle.adjacency.proofs.neighbor.Neighbor.receive_acknowledgment.Given as goal

abbrev pub invariant-loop-header : goal.invariant-loop-header
invariant-loop-header l = record {
  present : l.self.present ≡ after_acknowledgment l.moment (take l.header-index l.headers)
      l.fn.self.present;
  committed : l.self.committed ≡ l.fn.self.committed;
}
