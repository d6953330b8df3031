use Rattle.std.proofs.Common.{Some, ap, ◌∙◌}
use Rattle.adjacency.proofs.Neighbors.{neighbor_at, starts}
use Rattle.adjacency.proofs.neighbor.Neighbor.started.Goals as goal

pub returns : goal.returns
returns c =
    neighbor_at c.started-standing.ensures
    (ap (λ h. h.present) c.new-described.ensures
    ∙ ap (λ d. Some d) c.initial_description-opened.ensures)
    (ap (λ h. h.present) c.new-summary.ensures)
    (ap (λ h. h.present) c.new-requests.ensures) (ap (λ h. h.present) c.new-outstanding.ensures)
    (ap (λ h. h.present) c.new-retransmissions.ensures)
    ∙ starts c.args.moment c.args.router c.args.dd_sequence_start c.args.last_heard
    c.next_dd_sequence_start-dd_sequence.result c.next_dd_sequence_start-dd_sequence.ensures
