use Rattle.routes.proofs.InPages.{IsPassed}
use Rattle.routes.proofs.shared.has.Given as goal

abbrev pub invariant-loop-other : goal.invariant-loop-other
invariant-loop-other l = IsPassed l.routes 0 l.other-index l.route
