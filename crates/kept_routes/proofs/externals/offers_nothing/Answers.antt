use Rattle.std.proofs.Common.{inl, inr, arith, refl}
use Rattle.kept_routes.proofs.externals.offers_nothing.Goals as goal

pub returns-then-is_own : goal.returns-then-is_own
returns-then-is_own c = (
  (λ t. record {
    external = omega (arith, c.if-key-lt5.false);
    of_no_account = inl (c.is_own.ensures.0 c.if-is_own.true);
  }),
  (λ it. refl),
)

pub returns : goal.returns
returns c = (
  (λ t. record {
    external = omega (arith, c.if-key-lt5.false);
    of_no_account = inr (c.is_unreached.ensures.0 t);
  }),
  (λ it.
      elim it.of_no_account [
        | inl own ↦ absurd (let on = c.is_own.ensures.1 own in cc)
        | inr un ↦ c.is_unreached.ensures.1 un
      ]),
)
