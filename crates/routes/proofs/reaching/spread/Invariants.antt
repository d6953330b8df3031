use Rattle.routes.specs.Loops.{IsSpread}
use Rattle.routes.proofs.reaching.spread.Given as goal

abbrev pub invariant-loop-hop : goal.invariant-loop-hop
invariant-loop-hop l = IsSpread l.hops l.start l.initial.marks l.marks l.some l.hop-index
