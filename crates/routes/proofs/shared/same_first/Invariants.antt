use Rattle.routes.proofs.InPages.{AreSame}
use Rattle.routes.proofs.shared.same_first.Given as goal

abbrev pub invariant-loop-at : goal.invariant-loop-at
invariant-loop-at l = AreSame l.one l.other l.at
