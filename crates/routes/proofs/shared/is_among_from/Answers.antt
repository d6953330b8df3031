use Rattle.std.proofs.Common.{arith}
use Rattle.routes.proofs.InPages.{all_passed, more_passed}
use Rattle.routes.proofs.shared.is_among_from.Goals as goal

pub loop-at-init : goal.loop-at-init
loop-at-init c k low high is = absurd (omega (arith, low, high))

pub loop-at-preserved : goal.loop-at-preserved
loop-at-preserved c =
    more_passed c.args.routes.now c.args.from c.loop-at.at c.part_from-part.result.now
    c.args.route.now c.part_from-part.ensures (c.has.ensures c.if-has.false)
    c.loop-at.invariant

pub returns : goal.returns
returns c off =
    all_passed c.args.routes.now c.args.from c.loop-at.at c.args.route.now
    (omega (arith, c.loop-at-test.false)) c.loop-at.invariant
