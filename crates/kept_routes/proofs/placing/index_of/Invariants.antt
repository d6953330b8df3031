use Rattle.std.proofs.Common.{◌-◌, ◌≤◌, length}
use Rattle.kept_routes.proofs.Paged.{AreEarlier, AreLater}
use Rattle.kept_routes.proofs.placing.index_of.Given as goal

abbrev pub invariant-loop-low : goal.invariant-loop-low
invariant-loop-low l = record {
  order : l.low ≤ l.high;
  inside : l.high ≤ length l.routes;
  earlier : AreEarlier l.routes l.low l.prefix;
  later : AreLater l.routes l.high l.prefix;
}

abbrev pub decreases-loop-low : goal.decreases-loop-low
decreases-loop-low l = l.high - l.low
