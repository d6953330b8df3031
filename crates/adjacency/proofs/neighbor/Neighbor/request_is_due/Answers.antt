use Rattle.std.proofs.Common.{◌&&◌, not, ap, ◌∙◌}
use Rattle.adjacency.specs.Adjacencies.{has_passed}
use Rattle.adjacency.specs.Timers.{request_is_due}
use Rattle.adjacency.proofs.Timers.{asks_again}
use Rattle.adjacency.proofs.neighbor.Neighbor.request_is_due.Goals as goal

pub returns : goal.returns
returns c =
    let passed = c.has_passed-passed.ensures
    ∙ ap (λ t. has_passed c.self.inside.standing.requested_at t c.args.moment) c.from.ensures in
    c.both.ensures ∙ (λ i. not (c.is_empty-none.ensures i) && (passed i))
    ∙ asks_again c.self.inside.standing c.self.inside.described.present
    c.self.inside.summary.present c.self.inside.requests.present
    c.self.inside.outstanding.present c.self.inside.retransmissions.present c.args.moment
    c.args.interval
    ∙ ap (λ h. request_is_due c.args.moment c.args.interval h.present) c.self.view_is
