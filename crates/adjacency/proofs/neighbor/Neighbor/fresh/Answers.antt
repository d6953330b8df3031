use Rattle.std.proofs.Common.{ap, ◌∙◌}
use Rattle.adjacency.proofs.Neighbors.{freshly, neighbor_at}
use Rattle.adjacency.proofs.neighbor.Neighbor.fresh.Goals as goal

pub returns : goal.returns
returns c =
    neighbor_at c.fresh-standing.ensures (ap (λ h. h.present) c.new-described.ensures)
    (ap (λ h. h.present) c.new-summary.ensures)
    (ap (λ h. h.present) c.new-requests.ensures) (ap (λ h. h.present) c.new-outstanding.ensures)
    (ap (λ h. h.present) c.new-retransmissions.ensures)
    ∙ freshly c.args.router c.args.dd_sequence_start c.args.last_heard
