use Rattle.std.proofs.Common.{ap, ◌∙◌}
use Rattle.adjacency.specs.declared.state.NeighborState.TheVariants.{Exchange}
use Rattle.adjacency.proofs.Exchanges.{enters_exchange}
use Rattle.adjacency.proofs.Neighbors.{kept_is}
use Rattle.adjacency.proofs.neighbor.Neighbor.enter_exchange.Goals as goal

pub returns : goal.returns
returns c =
    kept_is (enters_exchange c.self.inside.standing c.self.inside.described.present
    c.self.inside.summary.present c.self.inside.requests.present
    c.self.inside.outstanding.present c.self.inside.retransmissions.present c.args.moment
    c.args.is_master c.args.sequence
    ∙ ap (λ h. record h.present {
      state = Exchange;
      is_master = c.args.is_master;
      sequence =
          c.args.sequence;
      retransmitted_at = c.args.moment;
    }) c.self.view_is)
    (ap (λ h. h.committed) c.self.view_is)
