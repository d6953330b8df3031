use Rattle.std.proofs.Common.{ap, ◌∙◌}
use Rattle.std.proofs.lemmas.Result.{IfOk-weaker}
use Rattle.adjacency.specs.Requests.{still_outstanding}
use Rattle.adjacency.proofs.Intersections.{kept_in_both}
use Rattle.adjacency.proofs.Timers.{outstanding_there}
use Rattle.adjacency.proofs.neighbor.Neighbor.still_outstanding.Goals as goal

pub returns : goal.returns
returns c =
    IfOk-weaker c.keys_where.result _ _ (λ keys is.
    is ∙ kept_in_both c.self.inside.outstanding.present c.self.inside.requests.present
    ∙ outstanding_there c.self.inside.standing c.self.inside.described.present
    c.self.inside.summary.present c.self.inside.requests.present
    c.self.inside.outstanding.present c.self.inside.retransmissions.present
    ∙ ap (λ h. still_outstanding h.present) c.self.view_is) c.keys_where.ensures
