use Rattle.std.proofs.Common.{◌+◌, ◌^◌, subst}
use Rattle.interval.specs.Bounds.{IsIn}
use Rattle.interval.specs.Signs.{biased_number}
use Rattle.interval.proofs.SignLemmas.{sum_biased, sum_most}
use Rattle.interval.proofs.signed_results.signed_sum.Goals as goal

pub returns-clause-holds : goal.returns-clause-holds
returns-clause-holds c = λ a b left right.
    subst (IsIn c.wrapped.result) (sum_biased a b)
    (c.wrapped.ensures.holds (biased_number a + biased_number b + 2 ^ 63)
    (sum_most (2 ^ 63) c.args.left.low c.args.right.low (biased_number a) (biased_number b) left.low
    right.low)
    (sum_most (2 ^ 63) (biased_number a) (biased_number b) c.args.left.high c.args.right.high
    left.high right.high))
