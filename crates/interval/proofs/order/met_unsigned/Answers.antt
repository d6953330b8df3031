use Rattle.std.specs.Prelude.{nat_lt, nat_le}
use Rattle.interval.proofs.order.met_unsigned.Goals as goal

pub returns-in-Greater-clause-holds : goal.returns-in-Greater-clause-holds
returns-in-Greater-clause-holds c =
    λ w. rw c.in-Greater.is (c.swapped.ensures.holds nat_lt c.args.left c.args.right
    c.less-in-Greater.ensures.holds)

pub returns-in-GreaterOrEqual-clause-holds : goal.returns-in-GreaterOrEqual-clause-holds
returns-in-GreaterOrEqual-clause-holds c =
    λ w. rw c.in-GreaterOrEqual.is (c.swapped-in-GreaterOrEqual.ensures.holds nat_le c.args.left
    c.args.right c.at_most-in-GreaterOrEqual.ensures.holds)
