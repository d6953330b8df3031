use Rattle.std.proofs.Common.{sym, ap, ◌∙◌}
use Rattle.adjacency.specs.Neighbors.{is_exchange_or_later}
use Rattle.adjacency.specs.Steps.{neighbor_is_exchange_or_later}
use Rattle.adjacency.specs.Views.{present_of}
use Rattle.area.proofs.neighbor_slot.NeighborSlot.is_exchange_or_later.Goals as goal

pub returns-in-Some : goal.returns-in-Some
returns-in-Some c =
    c.is_exchange_or_later.ensures
    ∙ ap (λ s. is_exchange_or_later s.state) c.standing.ensures
    ∙ ap (λ o. neighbor_is_exchange_or_later (present_of o)) (sym c.in-Some.is)
    ∙ ap (λ h. neighbor_is_exchange_or_later h.present) c.self.view_is
