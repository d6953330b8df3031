use Rattle.std.proofs.Common.{take}
use Rattle.area_routes.specs.Kept.{AreNotExternal}
use Rattle.area_routes.proofs.unchanged.are_not_external.Given as goal

abbrev pub invariant-loop-key : goal.invariant-loop-key
invariant-loop-key l = AreNotExternal (take l.key-index l.keys)
