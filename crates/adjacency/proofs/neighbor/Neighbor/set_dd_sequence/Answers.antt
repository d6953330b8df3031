use Rattle.std.proofs.Common.{ap, ◌∙◌}
use Rattle.adjacency.proofs.Exchanges.{counts_on}
use Rattle.adjacency.proofs.Neighbors.{kept_is}
use Rattle.adjacency.proofs.neighbor.Neighbor.set_dd_sequence.Goals as goal

pub returns : goal.returns
returns c =
    kept_is (counts_on c.self.inside.standing c.self.inside.described.present
    c.self.inside.summary.present c.self.inside.requests.present
    c.self.inside.outstanding.present c.self.inside.retransmissions.present c.args.sequence
    ∙ ap (λ h. record h.present { sequence = c.args.sequence }) c.self.view_is)
    (ap (λ h. h.committed) c.self.view_is)
