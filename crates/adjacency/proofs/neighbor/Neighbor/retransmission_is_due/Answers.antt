use Rattle.std.proofs.Common.{◌&&◌, not, ap, ◌∙◌}
use Rattle.adjacency.specs.Adjacencies.{has_passed}
use Rattle.adjacency.specs.Timers.{retransmission_is_due}
use Rattle.adjacency.proofs.Timers.{retransmits_due}
use Rattle.adjacency.proofs.neighbor.Neighbor.retransmission_is_due.Goals as goal

pub returns : goal.returns
returns c =
    let passed = c.has_passed-passed.ensures
    ∙ ap (λ t. has_passed c.self.inside.standing.retransmitted_at t c.args.moment)
    c.from.ensures in
    c.both.ensures ∙ (λ i. not (c.is_empty-none.ensures i) && (passed i))
    ∙ retransmits_due c.self.inside.standing c.self.inside.described.present
    c.self.inside.summary.present c.self.inside.requests.present
    c.self.inside.outstanding.present c.self.inside.retransmissions.present c.args.moment
    c.args.interval
    ∙ ap (λ h. retransmission_is_due c.args.moment c.args.interval h.present) c.self.view_is
