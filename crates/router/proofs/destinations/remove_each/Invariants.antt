use Rattle.std.proofs.Common.{◌≡◌}
use Rattle.std.specs.List.{fold}
use Rattle.std.specs.FinMap as finite
use Rattle.area.proofs.Acknowledged.{from}
use Rattle.router.proofs.destinations.remove_each.Given as goal

abbrev pub invariant-loop-i : goal.invariant-loop-i
invariant-loop-i l = record {
  leaves : fold finite.remove l.moments.present (from l.i l.keys)
      ≡ fold finite.remove l.fn.moments.present l.keys;
  committed : l.moments.committed ≡ l.fn.moments.committed;
}
