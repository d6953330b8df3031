use Rattle.std.proofs.Common.{ap, sym, ◌∙◌}
use Rattle.adjacency.specs.Descriptions.{announced_more}
use Rattle.adjacency.proofs.Judged.{described_now}
use Rattle.adjacency.proofs.neighbor.Neighbor.announced_more.Goals as goal

pub returns-in-None : goal.returns-in-None
returns-in-None c = ap announced_more
    (sym c.in-None.is ∙ c.get.ensures
    ∙ described_now c.self.inside.standing c.self.inside.described.present
    c.self.inside.summary.present c.self.inside.requests.present
    c.self.inside.outstanding.present c.self.inside.retransmissions.present)
    ∙ ap (λ h. announced_more h.present.described) c.self.view_is

pub returns-in-Some : goal.returns-in-Some
returns-in-Some c = ap announced_more
    (sym c.in-Some.is ∙ c.get.ensures
    ∙ described_now c.self.inside.standing c.self.inside.described.present
    c.self.inside.summary.present c.self.inside.requests.present
    c.self.inside.outstanding.present c.self.inside.retransmissions.present)
    ∙ ap (λ h. announced_more h.present.described) c.self.view_is
