use Rattle.std.proofs.Common.{ℕ}
use Rattle.std.specs.List.{Contains}
use Rattle.lsa.specs.declared.body.RouterLink.{RouterLink}
use Rattle.area_routes.specs.GraphChanges.{IsEndAmong}
use Rattle.area_routes.proofs.Fronts.{OfFront}
use Rattle.area_routes.proofs.graph_changes.note_ends.Given as goal

abbrev pub invariant-loop-link : goal.invariant-loop-link
invariant-loop-link l = record {
  kept : (place : ℕ) → Contains l.fn.places.items place → Contains l.places.items place;
  noted : OfFront (λ (link : RouterLink). IsEndAmong l.at.nodes.now l.places.items link)
      l.link-items
      l.link-index;
}
