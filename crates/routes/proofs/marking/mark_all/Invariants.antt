use Rattle.routes.specs.Loops.{AreLoopsSoFar}
use Rattle.routes.proofs.marking.mark_all.Given as goal

abbrev pub invariant-loop-hop : goal.invariant-loop-hop
invariant-loop-hop l = AreLoopsSoFar l.hops l.costs l.marks l.hop-index
