use Rattle.std.proofs.Common.{subst}
use Rattle.isa.specs.Arithmetic.{low}
use Rattle.interval.specs.Bounds.{bounds_of, cut_bounds}
use Rattle.interval.specs.Results.{IsNarrowResult}
use Rattle.interval.proofs.domain.IntervalDomain.alu.Goals as goal

pub returns-clause-holds : goal.returns-clause-holds
returns-clause-holds c = λ a b left right.
    c.between_both.ensures.holds _
    (c.results.ensures.holds (low c.args.width a) (low c.args.width b)
    (c.cut-low_left.ensures.holds a left.unsigned)
    (c.cut-low_right.ensures.holds b right.unsigned))
    (c.signed_results.ensures.holds a b left.unsigned.small right.unsigned.small left.signed
    right.signed)

pub returns-clause-gives : goal.returns-clause-gives
returns-clause-gives c = record {
  unsigned = (
    bounds_of c.results.result,
    subst (λ l. IsNarrowResult c.args.width c.args.operation l
        (cut_bounds c.args.width (bounds_of c.args.right.unsigned)) (bounds_of c.results.result))
        c.cut-low_left.ensures.bounds
        (subst (λ r. IsNarrowResult c.args.width c.args.operation (bounds_of c.cut-low_left.result)
        r (bounds_of c.results.result)) c.cut-low_right.ensures.bounds
        c.results.ensures.narrow),
    c.between_both.ensures.unsigned,
  );
  signed = (
    bounds_of c.signed_results.result,
    c.signed_results.ensures.narrow,
    λ a b left right. c.between_both.ensures.signed _
        (c.results.ensures.holds (low c.args.width a) (low c.args.width b)
        (c.cut-low_left.ensures.holds a left.unsigned)
        (c.cut-low_right.ensures.holds b right.unsigned))
        (c.signed_results.ensures.holds a b left.unsigned.small right.unsigned.small left.signed
        right.signed),
  );
}
