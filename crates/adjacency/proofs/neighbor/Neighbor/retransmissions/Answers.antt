use Rattle.std.proofs.Common.{ap, ◌∙◌}
use Rattle.adjacency.proofs.Timers.{retransmissions_now}
use Rattle.adjacency.proofs.neighbor.Neighbor.retransmissions.Goals as goal

pub returns : goal.returns
returns c = retransmissions_now c.self.inside.standing c.self.inside.described.present
    c.self.inside.summary.present c.self.inside.requests.present c.self.inside.outstanding.present
    c.self.inside.retransmissions.present ∙ ap (λ h. h.present.retransmissions) c.self.view_is
