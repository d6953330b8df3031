use Rattle.std.proofs.Common.{take}
use Rattle.candidates.specs.Borders.{TellsFlags}
use Rattle.candidates.proofs.Flags.{AreTold}
use Rattle.candidates.proofs.flagged.flagged_routers.Given as goal

abbrev pub invariant-loop-one : goal.invariant-loop-one
invariant-loop-one g l = AreTold (TellsFlags (g.W.Ways.ways l.ways)) (take l.one-index l.bodies)
    l.routers.items
