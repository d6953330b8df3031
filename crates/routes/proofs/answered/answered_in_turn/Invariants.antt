use Rattle.routes.proofs.InTurn.{AreMet}
use Rattle.routes.proofs.answered.answered_in_turn.Given as goal

abbrev pub invariant-loop-at : goal.invariant-loop-at
invariant-loop-at l = AreMet l.answers l.routes l.at
