use Rattle.object.proofs.Behind.{SoFar}
use Rattle.object.proofs.reading.statements.Given as goal

abbrev pub invariant-loop-index : goal.invariant-loop-index
invariant-loop-index l = SoFar l.bytes l.slots l.statements.items l.least l.index
