use Rattle.std.proofs.Common.{◌-◌, length}
use Rattle.routes.proofs.InPages.{IsPassed}
use Rattle.routes.proofs.shared.is_among_from.Given as goal

abbrev pub invariant-loop-at : goal.invariant-loop-at
invariant-loop-at l = IsPassed l.routes l.from l.at l.route

abbrev pub decreases-loop-at : goal.decreases-loop-at
decreases-loop-at l = length l.routes - l.at
