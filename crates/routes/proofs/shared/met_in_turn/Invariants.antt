use Rattle.std.proofs.Common.{◌-◌, length}
use Rattle.routes.proofs.InPages.{AreSame}
use Rattle.routes.proofs.shared.met_in_turn.Given as goal

abbrev pub invariant-loop-met : goal.invariant-loop-met
invariant-loop-met l = AreSame l.one l.other l.met

abbrev pub decreases-loop-met : goal.decreases-loop-met
decreases-loop-met l = length l.one - l.met
