use Rattle.std.proofs.Common.{◌&&◌, not, ap, ◌∙◌}
use Rattle.adjacency.specs.Requests.{is_to_request}
use Rattle.adjacency.proofs.Sets.{may_now}
use Rattle.adjacency.proofs.neighbor.Neighbor.is_to_request.Goals as goal

pub returns : goal.returns
returns c =
    c.all_hold.ensures
    ∙ (λ i. (c.is_exchange_or_loading-synchronizing.ensures i) && not
    (c.is_empty-requests_nothing.ensures i) && (c.is_empty-none_outstanding.ensures i))
    ∙ may_now c.self.inside.standing c.self.inside.described.present c.self.inside.summary.present
    c.self.inside.requests.present c.self.inside.outstanding.present
    c.self.inside.retransmissions.present
    ∙ ap (λ h. is_to_request h.present) c.self.view_is
