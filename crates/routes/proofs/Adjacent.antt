-- A list is sorted if no element is less than the one before it.
use Rattle.std.proofs.Common.{◌≡◌, ℕ, ◌<◌, ◌≤◌, ◌+◌, ◌-◌, inl, inr, Bool, true, false, List, length}
use Rattle.std.proofs.Common.{get_or, arith, sym, ◌∙◌, ap, subst}
use Rattle.std.specs.Ordering.{is_lt}
use Rattle.std.specs.declared.cmp.Ordering.{Ordering}
use Rattle.std.proofs.lemmas.Bool.{cases_eq}
use Rattle.routes.proofs.Listed.{other_default}

module _ {X : Type 0} (R : X → X → Ordering) (xs : List X) where
  -- below this index
  abbrev pub UpTo : ℕ → Type 0
  UpTo n = (k : ℕ) (d : X) → k + 1 < n → is_lt (R (get_or xs (k + 1) d) (get_or xs k d)) ≡ false

  pub at_places : (n : ℕ) (after before d : X) (b : Bool) → n < length xs
      → after ≡ get_or xs n after → before ≡ get_or xs (n - 1) before → is_lt (R after before) ≡ b
      → is_lt (R (get_or xs n d) (get_or xs (n - 1) d)) ≡ b
  at_places n after before d b within is_after is_before e =
      let low : n - 1 < length xs = omega arith in
      let one : get_or xs n d ≡ after = other_default xs n d after within ∙ sym is_after in
      let two : get_or xs (n - 1) d ≡ before =
      other_default xs (n - 1) d before low ∙ sym is_before in
      ap (λ a. is_lt (R a (get_or xs (n - 1) d))) one ∙ ap (λ a. is_lt (R after a)) two ∙ e

  pub one_more : (n : ℕ) → 1 ≤ n → UpTo n
      → ((d : X) → is_lt (R (get_or xs n d) (get_or xs (n - 1) d)) ≡ false) → UpTo (n + 1)
  one_more n first up here k d low =
      elim (cases_eq (k + 1) n) [
        | inl e ↦
            let at : n - 1 ≡ k = omega (arith, e) in
            let P : ℕ → ℕ → Type 0 = λ i j. is_lt (R (get_or xs i d) (get_or xs j d)) ≡ false in
            subst (λ i. P i k) (sym e) (subst (λ j. P n j) at (here d))
        | inr other ↦ up k d (omega (arith, other, low))
      ]

  pub out_of_order : (n : ℕ) (d : X) → 1 ≤ n → n < length xs
      → is_lt (R (get_or xs n d) (get_or xs (n - 1) d)) ≡ true → UpTo (length xs) → ⊥
  out_of_order n d first within e up =
      let at : n - 1 + 1 ≡ n = omega (arith, first) in
      let P : ℕ → Type 0 = λ i. is_lt (R (get_or xs i d) (get_or xs (n - 1) d)) ≡ false in
      let no : true ≡ false = sym e ∙ subst P at (up (n - 1) d (omega (arith, first, within))) in
      cc
