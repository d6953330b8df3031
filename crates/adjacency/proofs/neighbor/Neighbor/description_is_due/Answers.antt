use Rattle.std.proofs.Common.{◌&&◌, ap, ◌∙◌}
use Rattle.adjacency.specs.Adjacencies.{has_passed}
use Rattle.adjacency.specs.Timers.{description_is_due}
use Rattle.adjacency.proofs.Timers.{describes_due}
use Rattle.adjacency.proofs.neighbor.Neighbor.description_is_due.Goals as goal

pub returns : goal.returns
returns c =
    let passed = c.has_passed-passed.ensures
    ∙ ap (λ t. has_passed c.self.inside.standing.described_at t c.args.moment) c.from.ensures in
    c.both.ensures ∙ (λ i. (c.repeats_description-repeats.ensures i) && (passed i))
    ∙ describes_due c.self.inside.standing c.self.inside.described.present
    c.self.inside.summary.present c.self.inside.requests.present
    c.self.inside.outstanding.present c.self.inside.retransmissions.present c.args.moment
    c.args.interval
    ∙ ap (λ h. description_is_due c.args.moment c.args.interval h.present) c.self.view_is
