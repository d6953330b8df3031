use Rattle.std.proofs.Common.{take}
use Rattle.std.specs.List.{AllByRecursion}
use Rattle.words.specs.Fields.{AreBytes}
use Rattle.packet.proofs.ranges.prove_lsas.Given as goal

abbrev pub invariant-loop-lsa : goal.invariant-loop-lsa
invariant-loop-lsa l = AllByRecursion AreBytes (take l.lsa-index l.lsas)
