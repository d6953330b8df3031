use Rattle.std.proofs.Common.{◌≤◌, arith, lit<}
use Rattle.interval.proofs.domain.IntervalDomain.within.Goals as goal

-- the least signed number is 2^63 as an unsigned one, the greatest 2^63 - 1
pub returns-then-is_inside-clause-everything : goal.returns-then-is_inside-clause-everything
returns-then-is_inside-clause-everything c = λ all.
    let least : c.args.other.signed.low ≤ 0 = (all 9223372036854775808 (lit< tt)).signed.low in
    let greatest : 18446744073709551615 ≤ c.args.other.signed.high =
    (all 9223372036854775807 (lit< tt)).signed.high in
    c.is_inside-then-is_inside.ensures.1 (record {
      low = omega (arith, least);
      high = omega (arith, greatest);
    })
