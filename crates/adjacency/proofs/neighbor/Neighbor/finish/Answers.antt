use Rattle.std.proofs.Common.{cond, ap, ◌∙◌}
use Rattle.adjacency.specs.declared.state.NeighborState.TheVariants.{Full, Loading}
use Rattle.adjacency.specs.Descriptions.{exchange_done}
use Rattle.adjacency.proofs.Exchanges.{finishes}
use Rattle.adjacency.proofs.Neighbors.{kept_is}
use Rattle.adjacency.proofs.neighbor.Neighbor.finish.Goals as goal

pub returns : goal.returns
returns c =
    kept_is (finishes c.self.inside.standing c.self.inside.described.present
    c.self.inside.summary.present c.self.inside.requests.present
    c.self.inside.outstanding.present c.self.inside.retransmissions.present c.args.moment
    c.full_where-state.result (c.full_where-state.ensures
    ∙ ap (λ b. cond b Full Loading) c.is_empty-nothing.ensures)
    ∙ ap (λ h. exchange_done c.args.moment h.present) c.self.view_is)
    (ap (λ h. h.committed) c.self.view_is)
