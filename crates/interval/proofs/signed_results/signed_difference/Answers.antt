use Rattle.std.proofs.Common.{◌+◌, ◌-◌, ◌*◌, ◌^◌, subst}
use Rattle.interval.specs.Bounds.{IsIn}
use Rattle.interval.specs.Signs.{biased_number}
use Rattle.interval.proofs.SignLemmas.{difference_biased, difference_most}
use Rattle.interval.proofs.signed_results.signed_difference.Goals as goal

pub returns-clause-holds : goal.returns-clause-holds
returns-clause-holds c = λ a b small left right.
    subst (IsIn c.wrapped.result) (difference_biased a b small)
    (c.wrapped.ensures.holds (biased_number a + (3 * 2 ^ 63 - biased_number b))
    (difference_most (3 * 2 ^ 63) c.args.left.low c.args.right.high (biased_number a)
    (biased_number b) left.low right.high)
    (difference_most (3 * 2 ^ 63) (biased_number a) (biased_number b) c.args.left.high
    c.args.right.low left.high right.low))
