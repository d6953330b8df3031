use Rattle.std.proofs.Common.{◌≡◌, true, inl, inr}
use Rattle.interval.proofs.OrderLemmas.{tight_same, trims_unsigned, bits_trim_nothing}
use Rattle.interval.proofs.order.assumed.Goals as goal

pub returns-then-are_not_negative-clause-trimmed : goal.returns-then-are_not_negative-clause-trimmed
returns-then-are_not_negative-clause-trimmed c = record {
  inside = c.met_unsigned.ensures.inside;
  tight = λ trims. elim c.unsigned.ensures.unsigned [
    | inl bit_test ↦ absurd (bits_trim_nothing c.args.test c.args.width c.args.left c.args.right
        bit_test trims)
    | inr unsigned ↦ tight_same c.args.width c.args.test c.unsigned.result c.args.left c.args.right
        c.met_unsigned.result
        (c.are_not_negative.ensures.0 c.if-are_not_negative.true)
        (c.unsigned.ensures.same c.args.width)
        c.met_unsigned.ensures.inside
        (c.met_unsigned.ensures.tight c.args.width unsigned)
  ];
}

pub returns-clause-trimmed : goal.returns-clause-trimmed
returns-clause-trimmed c = record {
  inside = c.met_unsigned-2.ensures.inside;
  tight = λ trims. c.met_unsigned-2.ensures.tight c.args.width
      (trims_unsigned c.args.test c.args.width c.args.left c.args.right
      (λ half. let not_negative : c.are_not_negative.result ≡ true =
      c.are_not_negative.ensures.1 half in
      let negative = c.if-are_not_negative.false in absurd (cc)) trims);
}
