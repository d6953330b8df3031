use Rattle.std.proofs.Common.{ap, ◌∙◌}
use Rattle.adjacency.proofs.Timers.{requests_now}
use Rattle.adjacency.proofs.neighbor.Neighbor.requests.Goals as goal

pub returns : goal.returns
returns c = requests_now c.self.inside.standing c.self.inside.described.present
    c.self.inside.summary.present c.self.inside.requests.present c.self.inside.outstanding.present
    c.self.inside.retransmissions.present ∙ ap (λ h. h.present.requests) c.self.view_is
