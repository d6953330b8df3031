use Rattle.std.proofs.Common.{◌≡◌, ℕ}
use Rattle.area_routes.proofs.Fronts.{OfFront}
use Rattle.area_routes.proofs.graph_links.is_listed.Given as goal

abbrev pub invariant-loop-other : goal.invariant-loop-other
invariant-loop-other l = OfFront (λ (r : ℕ). r ≡ l.router → ⊥) l.other-items l.other-index
