use Rattle.std.proofs.Common.{◌-◌, length}
use Rattle.routes.proofs.InTurn.{AreMet}
use Rattle.routes.proofs.shared.answered_in_pages.Given as goal

abbrev pub invariant-loop-met : goal.invariant-loop-met
invariant-loop-met l = AreMet l.answers l.candidates l.met

abbrev pub decreases-loop-met : goal.decreases-loop-met
decreases-loop-met l = length l.candidates - l.met
