use Rattle.std.proofs.Common.{◌≤◌, ◌+◌, ◌-◌, ◌^◌, ◌%◌, arith, subst}
use Rattle.knownbits.specs.Masks.{HasBits}
use Rattle.knownbits.proofs.Widths.{width_most, low_difference}
use Rattle.knownbits.proofs.domain.subtracted.Goals as goal

pub returns-clause-holds : goal.returns-clause-holds
returns-clause-holds c = λ x y small small' left right.
    subst (HasBits c.cut.result) (low_difference c.args.width x y small')
    (c.cut.ensures.holds ((x + (2 ^ 64 - y)) % 2 ^ 64)
    (c.difference.ensures.holds x y left right))

pub returns-clause-precise : goal.returns-clause-precise
returns-clause-precise c = λ count most left right i below.
    let few : count ≤ 64 = omega (arith, most, width_most c.args.width) in
    c.cut.ensures.keeps i (omega (arith, few, below))
    (c.difference.ensures.knows count few left right i below)
