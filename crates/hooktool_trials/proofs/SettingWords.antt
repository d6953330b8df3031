-- Settings of counters and cells, read of words.
use Rattle.std.proofs.Common.{◌≡◌, ◌∙◌, ◌<◌, ◌≤◌, ℕ, List, ◌∷◌, ◌++◌, Option, Some, None, ap, subst}
use Rattle.std.proofs.Common.{length, get_or, lit<, arith}
use Rattle.std.specs.Prelude.{MatchOption, decimal}
use Rattle.std.proofs.lemmas.Fmt.{digits_decimal}
use Rattle.std.proofs.lemmas.Str.Parse.{not_in_digits}
use Rattle.words.proofs.Decimals.{own}
use Rattle.std.proofs.lemmas.Str.Pattern.{IsSplitOnceResult, split_after, split_parts}
use Rattle.hooktool_trials.specs.Words.{IsSetting}
use Rattle.hooktool_trials.specs.declared.settings.Setting.{Setting}
use denote.Ref.{Bor}

abbrev Cut : Type 0
Cut = Option (Bor (List ℕ) × Bor (List ℕ))

cut : (places most : ℕ) → places ≤ 256 → (w : List ℕ) (r : Cut) → IsSplitOnceResult 61 w r
    → (s : Setting) → IsSetting places most w s
    → MatchOption r ⊥ (λ x. (x.0.now ≡ decimal s.index) × (x.1.now ≡ decimal s.number))
cut places most few w r h s is =
    split_after 61 w (decimal s.index) (decimal s.number) r h (lit< tt) is.0
    (not_in_digits own (decimal s.index) 61 (digits_decimal own s.index (omega (arith, is.1)))
    (λ r. absurd (omega (arith, r.1))))

pub no_setting : (places most : ℕ) → places ≤ 256 → (w : List ℕ) (r : Cut)
    → IsSplitOnceResult 61 w r → r ≡ None → (s : Setting) → IsSetting places most w s → ⊥
no_setting places most few w r h none s is =
    subst (λ (q : Cut). MatchOption q ⊥
    (λ x. (x.0.now ≡ decimal s.index) × (x.1.now ≡ decimal s.number))) none
    (cut places most few w r h s is)

pub setting_parts : (places most : ℕ) → places ≤ 256
    → (w : List ℕ) (r : Cut) (x : Bor (List ℕ) × Bor (List ℕ)) → IsSplitOnceResult 61 w r
    → r ≡ Some x → (s : Setting) → IsSetting places most w s
    → (x.0.now ≡ decimal s.index) × (x.1.now ≡ decimal s.number)
setting_parts places most few w r x h some s is =
    subst (λ (q : Cut). MatchOption q ⊥
    (λ x. (x.0.now ≡ decimal s.index) × (x.1.now ≡ decimal s.number))) some
    (cut places most few w r h s is)

pub setting_spelled : (w : List ℕ) (r : Cut) (x : Bor (List ℕ) × Bor (List ℕ))
    → IsSplitOnceResult 61 w r → r ≡ Some x → (index number : ℕ) → x.0.now ≡ decimal index
    → x.1.now ≡ decimal number → w ≡ decimal index ++ 61 ∷ decimal number
setting_spelled w r x h some index number e f =
    let parts : (w ≡ x.0.now ++ (61 ∷ x.1.now))
    × ((i : ℕ) → i < length x.0.now → get_or x.0.now i 0 ≡ 61 → ⊥) =
    subst (λ (q : Cut). MatchOption q ((i : ℕ) → i < length w → get_or w i 0 ≡ 61 → ⊥)
    (λ x. (w ≡ x.0.now ++ (61 ∷ x.1.now))
    × ((i : ℕ) → i < length x.0.now → get_or x.0.now i 0 ≡ 61 → ⊥))) some
    (split_parts 61 w r h (lit< tt)) in
    parts.0 ∙ ap (λ (t : List ℕ). t ++ (61 ∷ x.1.now)) e
    ∙ ap (λ (t : List ℕ). decimal index ++ (61 ∷ t)) f
