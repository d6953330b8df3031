use Rattle.std.proofs.Common.{ap, ◌∙◌}
use Rattle.adjacency.specs.Exchanges.{standing_of}
use Rattle.adjacency.proofs.Judged.{stands_now}
use Rattle.adjacency.proofs.neighbor.Neighbor.standing.Goals as goal

pub returns : goal.returns
returns c = stands_now c.self.inside.standing c.self.inside.described.present
    c.self.inside.summary.present c.self.inside.requests.present c.self.inside.outstanding.present
    c.self.inside.retransmissions.present ∙ ap (λ h. standing_of h.present) c.self.view_is
