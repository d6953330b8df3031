use Rattle.std.proofs.Common.{ap, ◌∙◌}
use Rattle.adjacency.proofs.Neighbors.{hears, kept_is}
use Rattle.adjacency.proofs.neighbor.Neighbor.restart_inactivity_timer.Goals as goal

pub returns : goal.returns
returns c =
    kept_is (hears c.self.inside.standing c.self.inside.described.present
    c.self.inside.summary.present c.self.inside.requests.present
    c.self.inside.outstanding.present c.self.inside.retransmissions.present c.args.moment
    ∙ ap (λ h. record h.present { last_heard = c.args.moment }) c.self.view_is)
    (ap (λ h. h.committed) c.self.view_is)
