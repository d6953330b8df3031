use Rattle.std.proofs.Common.{inl, inr, refl, sym, ◌∙◌}
use mathlib.Core.Bool.{false≢true}
use Rattle.lsdb.proofs.sameness.ages_agree.Goals as goal

pub returns-then-has_stored_age_of : goal.returns-then-has_stored_age_of
returns-then-has_stored_age_of c = (
  (λ t. inl (c.has_stored_age_of.ensures.0 c.if-has_stored_age_of.true)),
  (λ is. refl),
)

pub returns : goal.returns
returns c = (
  (λ t. inr (c.have_no_max_age.ensures.0 t)),
  (λ is.
      elim is [
        | inl one ↦ absurd (false≢true (sym c.if-has_stored_age_of.false
            ∙ c.has_stored_age_of.ensures.1 one))
        | inr none ↦ c.have_no_max_age.ensures.1 none
      ]),
)
