use Rattle.std.proofs.Common.{inl, inr, refl, sym, pos, Some, arith}
use mathlib.Core.Bool.{false≢true}
use Rattle.route_laws.specs.WorkedCopies.{copy}
use Rattle.route_laws.proofs.Left.{neither, old, young}
use Rattle.route_laws.proofs.kept.worked_copies.Goals as goal

pub returns : goal.returns
returns c = record {
  none = record { same = tt; not_just_aged = λ n is. absurd (cc) };
  stays = λ b. record {
    same = (refl, inl (refl, refl));
    not_just_aged = young (copy b (pos 4) 10 90) refl;
  };
  was_sent = λ b. record {
    same = (refl, inl (refl, refl));
    not_just_aged = young (record (copy b (pos 4) 10 90) { sent = Some 105 }) refl;
  };
  refreshed = λ b. record {
    same = (refl, inr (refl, refl));
    not_just_aged = young (copy b (pos 5) 0 105) refl;
  };
  refreshed_late = λ b. record {
    same = (refl, inr (refl, refl));
    not_just_aged = young (copy b (pos 5) 0 105) refl;
  };
  was_aged = λ b. record {
    same = (refl, inl (refl, refl));
    not_just_aged = old (copy b (pos 4) 3600 90) refl;
  };
  just_aged = λ b. record {
    same = (refl, inl (refl, refl));
    not_just_aged = old (copy b (pos 4) 3590 90) refl;
  };
  comes = λ b h. h.same;
  comes_aged = λ b h. h.same;
  leaves = λ b h. h.same;
  leaves_aged = λ b h. h.same;
  changes = λ b d other h. other h.same.0;
  changes_aged = λ b d other h. other h.same.0;
  ages = λ b h. false≢true (h.not_just_aged (copy b (pos 4) 3589 90) refl refl);
  ages_now = λ b h. false≢true (h.not_just_aged (copy b (pos 4) 3580 90) refl refl);
  is_flushed = λ b h. neither _ _ (λ one. omega (arith, one.0)) (λ none. false≢true (sym none.1))
      h.same.1;
  is_back = λ b h. neither _ _ (λ one. omega (arith, one.0)) (λ none. false≢true (sym none.0))
      h.same.1;
  is_back_at_once = λ b h. neither _ _ (λ one. omega (arith, one.0))
      (λ none. false≢true (sym none.0)) h.same.1;
  is_back_too_late = λ b h. neither _ _ (λ one. omega (arith, one.0))
      (λ none. false≢true (sym none.0)) h.same.1;
  is_flushed_again = λ b h. neither _ _ (λ one. omega (arith, one.1))
      (λ none. false≢true (sym none.0)) h.same.1;
}
