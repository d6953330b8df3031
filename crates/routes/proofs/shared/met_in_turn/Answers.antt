use Rattle.std.proofs.Common.{arith}
use Rattle.routes.proofs.InPages.{more_same}
use Rattle.routes.proofs.shared.met_in_turn.Goals as goal

pub loop-met-init : goal.loop-met-init
loop-met-init c k r low is = absurd (omega (arith, low))

pub loop-met-preserved : goal.loop-met-preserved
loop-met-preserved c =
    more_same c.args.one.now c.args.other.now c.loop-met.met c.same_first-same.result
    c.part_from.result.now c.part_from-in-loop-met.result.now
    c.part_from.ensures c.part_from-in-loop-met.ensures c.same_first-same.ensures.one
    c.same_first-same.ensures.other c.same_first-same.ensures.each c.loop-met.invariant
