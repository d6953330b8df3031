use Rattle.std.proofs.Common.{◌≡◌}
use Rattle.lsa.specs.declared.body.RouterLink.{RouterLink}
use Rattle.area_routes.proofs.Fronts.{OfFront}
use Rattle.area_routes.proofs.surroundings.has_link_to.Given as goal

abbrev pub invariant-loop-link : goal.invariant-loop-link
invariant-loop-link l =
    OfFront (λ (link : RouterLink). (link.kind ≡ l.kind) × (link.link_id ≡ l.id) → ⊥) l.link-items
    l.link-index
