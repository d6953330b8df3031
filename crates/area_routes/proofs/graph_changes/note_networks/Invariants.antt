use Rattle.std.proofs.Common.{◌≤◌, ◌<◌, ℕ}
use Rattle.std.specs.List.{Contains}
use Rattle.area_routes.proofs.graph_changes.note_networks.Given as goal

abbrev pub invariant-loop-place : goal.invariant-loop-place
invariant-loop-place l = record {
  kept : (place : ℕ) → Contains l.fn.places.items place → Contains l.places.items place;
  noted : (k : ℕ) → l.first ≤ k → k < l.place → Contains l.places.items k;
}
