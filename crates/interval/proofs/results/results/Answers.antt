use Rattle.std.proofs.Common.{◌<◌, ◌^◌, arith, sym, ◌∙◌, subst}
use Rattle.isa.specs.Arithmetic.{bits, low}
use Rattle.absdom.proofs.ArithmeticLemmas.{operate_below, low_below}
use Rattle.interval.proofs.results.results.Goals as goal
use Rattle.interval.proofs.results.results.Goals.{else-left-via-then-left+else-right}
use Rattle.interval.proofs.results.results.Goals.{else-left-via-else-left}

pub returns-then-right-clause-narrow : goal.returns-then-right-clause-narrow
returns-then-right-clause-narrow c =
    let w = c.args.width in
    record {
      single = λ left right. c.single.ensures.low ∙ sym c.single.ensures.high;
      narrow = λ many. absurd (many (c.if-left.true, c.if-right.true));
      small = subst (λ n. n < 2 ^ bits w) (sym (c.single.ensures.high ∙ c.operate.ensures))
          (operate_below w c.args.operation (low w c.args.left.low) (low w c.args.right.low)
          (low_below w _) (low_below w _));
    }

pub returns-in_default-clause-holds : goal.returns-in_default-clause-holds
returns-in_default-clause-holds c = λ a b left right.
    let small_left : a < 2 ^ bits c.args.width = omega (arith, left.high) in
    let small_right : b < 2 ^ bits c.args.width = omega (arith, right.high) in
    c.every.ensures.holds _ (operate_below c.args.width c.args.operation a b small_left small_right)

pub returns-in-ShiftLeft-clause-narrow : goal.returns-in-ShiftLeft-clause-narrow
returns-in-ShiftLeft-clause-narrow c = record {
  single = λ left right. elim c.else-left.branch [
    | else-left-via-then-left+else-right w ↦ absurd (w.if-right.false right)
    | else-left-via-else-left w ↦ absurd (w.if-left.false left)
  ];
  narrow = λ many. rw c.in-ShiftLeft.is c.left_shift.ensures.narrow;
  small = c.left_shift.ensures.small;
}
