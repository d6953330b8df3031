use Rattle.routes.specs.Loops.{AreReached, count_unmarked}
use Rattle.routes.proofs.reaching.spread_all.Given as goal

abbrev pub invariant-loop : goal.invariant-loop
invariant-loop l = AreReached l.hops l.start l.marks

abbrev pub decreases-loop : goal.decreases-loop
decreases-loop l = count_unmarked l.marks
