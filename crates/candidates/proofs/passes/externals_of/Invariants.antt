use Rattle.std.proofs.Common.{take}
use Rattle.candidates.specs.Externals.{AreAdvertisedBy}
use Rattle.candidates.proofs.passes.externals_of.Given as goal

abbrev pub invariant-loop-one : goal.invariant-loop-one
invariant-loop-one l = AreAdvertisedBy (take l.one-index l.bodies) l.all.items
