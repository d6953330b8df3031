use Rattle.std.proofs.Common.{◌≤◌}
use Rattle.area_routes.proofs.surroundings.index_range_of.Given as goal

abbrev pub invariant-loop-end : goal.invariant-loop-end
invariant-loop-end l = l.first ≤ l.end
