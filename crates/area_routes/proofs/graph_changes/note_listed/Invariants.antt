use Rattle.std.proofs.Common.{ℕ}
use Rattle.std.specs.List.{Contains}
use Rattle.area_routes.specs.GraphChanges.{IsAmong}
use Rattle.area_routes.proofs.Fronts.{OfFront}
use Rattle.routes.specs.declared.node.Node.TheVariants.{ARouter}
use Rattle.area_routes.proofs.graph_changes.note_listed.Given as goal

abbrev pub invariant-loop-router : goal.invariant-loop-router
invariant-loop-router l = record {
  kept : (place : ℕ) → Contains l.fn.places.items place → Contains l.places.items place;
  noted : OfFront (λ (router : ℕ). IsAmong l.at.nodes.now l.places.items (ARouter router))
      l.router-items l.router-index;
}
