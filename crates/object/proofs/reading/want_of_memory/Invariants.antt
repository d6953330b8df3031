use Rattle.std.proofs.Common.{List}
use Rattle.object.specs.Statements.{StatementParts}
use Rattle.object.proofs.Behind.{SoFar}
use Rattle.object.proofs.reading.want_of_memory.Given as goal

abbrev pub invariant-loop-index : goal.invariant-loop-index
invariant-loop-index l = (statements : List StatementParts)
    × SoFar l.bytes l.slots statements l.least l.index
