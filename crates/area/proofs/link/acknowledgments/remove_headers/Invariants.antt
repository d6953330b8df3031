use Rattle.std.proofs.Common.{◌≡◌}
use Rattle.std.specs.List.{fold}
use Rattle.std.specs.FinMap as finite
use Rattle.area.proofs.Acknowledged.{from}
use Rattle.area.proofs.link.acknowledgments.remove_headers.Given as goal

abbrev pub invariant-loop-i : goal.invariant-loop-i
invariant-loop-i l = record {
  leaves : fold finite.remove l.headers.present (from l.i l.keys)
      ≡ fold finite.remove l.fn.headers.present l.keys;
  committed : l.headers.committed ≡ l.fn.headers.committed;
}
