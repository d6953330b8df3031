use Rattle.std.proofs.Common.{ap, sym, ◌∙◌}
use Rattle.adjacency.specs.Descriptions.{is_kept}
use Rattle.adjacency.proofs.Judged.{described_now}
use Rattle.adjacency.proofs.neighbor.Neighbor.is_kept.Goals as goal

pub returns-in-None : goal.returns-in-None
returns-in-None c = ap is_kept (sym c.in-None.is ∙ c.get.ensures
    ∙ described_now c.self.inside.standing c.self.inside.described.present
    c.self.inside.summary.present c.self.inside.requests.present
    c.self.inside.outstanding.present c.self.inside.retransmissions.present)
    ∙ ap (λ h. is_kept h.present.described) c.self.view_is

pub returns-in-Some : goal.returns-in-Some
returns-in-Some c = ap is_kept (sym c.in-Some.is ∙ c.get.ensures
    ∙ described_now c.self.inside.standing c.self.inside.described.present
    c.self.inside.summary.present c.self.inside.requests.present
    c.self.inside.outstanding.present c.self.inside.retransmissions.present)
    ∙ ap (λ h. is_kept h.present.described) c.self.view_is
