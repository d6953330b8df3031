use Rattle.candidates.specs.Graphs.{Adds}
use Rattle.candidates.proofs.Steps.{OwnBelow}
use Rattle.candidates.proofs.links.add_own.Given as goal

abbrev pub invariant-loop-n : goal.invariant-loop-n
invariant-loop-n l = Adds (OwnBelow l.root l.to l.cost l.address l.n) l.fn.links.items l.links.items
