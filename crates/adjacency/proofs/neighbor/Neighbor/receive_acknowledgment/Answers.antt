use Rattle.std.proofs.Common.{sym, ◌∙◌}
use Rattle.std.proofs.lemmas.List.Sums.{fold_more}
use Rattle.adjacency.specs.Retransmissions.{acknowledged_neighbor}
use Rattle.adjacency.proofs.neighbor.Neighbor.receive_acknowledgment.Goals as goal

pub loop-header-preserved : goal.loop-header-preserved
loop-header-preserved c = record {
  present = c.in_ok-remove_acknowledged.ensures.ok
      ∙ (λ i. acknowledged_neighbor c.args.moment (c.loop-header.invariant.present i)
      (c.header-item.is i))
      ∙ sym (fold_more (acknowledged_neighbor c.args.moment) c.args.self.now.present
      c.args.headers.now c.loop-header.header-index c.header-item.result
      c.loop-header-test.true);
  committed = c.remove_acknowledged.ensures.committed ∙ c.loop-header.invariant.committed;
}
