use Rattle.std.proofs.Common.{arith, sym, subst}
use Rattle.std.specs.Prelude.{IsTrue}
use Rattle.isa.specs.declared.instruction.Width.TheVariants.{Bits64}
use Rattle.isa.specs.Arithmetic.{low, test_holds}
use Rattle.interval.specs.Order.{IsTightAnswer}
use Rattle.interval.specs.Signs.{biased_number}
use Rattle.interval.proofs.OrderLemmas.{tight_other}
use Rattle.interval.proofs.signed_order.assumed_signed.Goals as goal

pub returns-in-Bits64-Some-clause-holds : goal.returns-in-Bits64-Some-clause-holds
returns-in-Bits64-Some-clause-holds c = λ a b left right meets.
    c.met_unsigned.ensures.holds Bits64 a b left right
    (subst IsTrue (sym (c.in-Bits64-Some.ensures.same Bits64 a b left.small right.small))
    (subst (λ w. IsTrue (test_holds w c.args.test (low w (biased_number a))
    (low w (biased_number b)))) c.in-Bits64-Some.is-0 meets))

pub returns-in-Bits64-Some-clause-trimmed : goal.returns-in-Bits64-Some-clause-trimmed
returns-in-Bits64-Some-clause-trimmed c = record {
  inside = c.met_unsigned.ensures.inside;
  tight = λ trims.
      subst (λ w. IsTightAnswer (λ a b. test_holds w c.args.test (low w (biased_number a))
      (low w (biased_number b))) c.args.left c.args.right c.met_unsigned.result)
      (sym c.in-Bits64-Some.is-0)
      (tight_other (test_holds Bits64 c.in-Bits64-Some.order)
      (λ a b. test_holds Bits64 c.args.test (low Bits64 (biased_number a))
      (low Bits64 (biased_number b))) c.args.left c.args.right c.met_unsigned.result
      (λ a b left right. c.in-Bits64-Some.ensures.same Bits64 a b (omega (arith, left))
      (omega (arith, right)))
      c.met_unsigned.ensures.inside
      (c.met_unsigned.ensures.tight Bits64 c.in-Bits64-Some.ensures.unsigned));
}
