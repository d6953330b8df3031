use Rattle.object.proofs.Parts.{AreRead}
use Rattle.object.proofs.reading.kinds.Given as goal

abbrev pub invariant-loop-register : goal.invariant-loop-register
invariant-loop-register l = AreRead l.kinds l.bytes l.register
