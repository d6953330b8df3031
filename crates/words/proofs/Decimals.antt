-- Decimal numbers without a leading zero.
use Rattle.std.proofs.Common.{◌≡◌, ◌≢◌, ℕ, ◌<◌, ◌^◌, List, length, get_or, Bool, true, false, ◌&&◌}
use Rattle.std.proofs.Common.{not, eqb, refl, sym, ap, ◌∙◌, subst, arith, Ok, Err, Result}
use Rattle.std.specs.Prelude.{decimal, ◌==◌, slice_index}
use Rattle.std.specs.Str.{all_ascii_digits}
use Rattle.std.specs.Str.Parse.{digits_value, ParsesUnsigned}
use Rattle.std.specs.Result.{OkIff}
use Rattle.std.proofs.lemmas.Bool.{ne_eqb}
use Rattle.std.proofs.lemmas.Fmt.{digits_decimal, decimal_digit, first_decimal}
use Rattle.std.proofs.lemmas.Fmt.{decimal-digits_value, parse-decimal, decimal_injective}
use Rattle.std.proofs.lemmas.Str.Parse.{IsNumeralModel, numerals_by_value, tells_all_ascii_digits}
use Rattle.std.proofs.lemmas.Str.Parse.{parse_digits}

pub own : IsNumeralModel (λ ds. all_ascii_digits ds ≡ true) (digits_value 10)
own = numerals_by_value _ tells_all_ascii_digits

abbrev pub leading_zero : List ℕ → Bool
leading_zero w = (slice_index w 0 == 48) && not (length w == 1)

-- a word that isn't digits alone spells no number
pub not_digits : (w : List ℕ) → all_ascii_digits w ≡ false → (n : ℕ) → n < 2 ^ 64 → w ≢ decimal n
not_digits w e n h s = let digits = digits_decimal own n h in absurd (cc (ap all_ascii_digits s))

plain_zero : leading_zero (decimal 0) ≡ false
plain_zero = rw (decimal_digit 0 (omega arith)) refl

-- a number has no leading zero
plain_decimal : (n : ℕ) → n < 2 ^ 64 → leading_zero (decimal n) ≡ false
plain_decimal n h = elim (eqb n 0) as (λ b. eqb n 0 ≡ b → leading_zero (decimal n) ≡ false) [
  | true ↦ λ q. let zero : n ≡ 0 = grind arith in rw (zero, plain_zero) refl
  | false ↦ λ q. let some : 0 < n = grind arith in
      let first = first_decimal n some h in
      rw (ne_eqb (get_or (decimal n) 0 0) 48 (λ e. absurd (omega (arith, first, e)))) refl
] refl

pub with_leading_zero : (w : List ℕ) → leading_zero w ≡ true → (n : ℕ) → n < 2 ^ 64 → w ≢ decimal n
with_leading_zero w e n h s = absurd (cc (ap leading_zero s, plain_decimal n h))

one_digit : (w : List ℕ) → leading_zero w ≡ false → get_or w 0 0 ≡ 48 → length w ≡ 1
one_digit w e z = elim (eqb (length w) 1) as (λ b. eqb (length w) 1 ≡ b → length w ≡ 1) [
  | true ↦ λ q. grind arith
  | false ↦ λ q. let lead : leading_zero w ≡ true = rw (z, q) refl in absurd (cc)
] refl

-- a word that is read as a number spells it
pub spelled : {E : Type 0} (w : List ℕ) (r : Result ℕ E) (n : ℕ) → all_ascii_digits w ≡ true
    → leading_zero w ≡ false → ParsesUnsigned 64 10 w r → r ≡ Ok n → (w ≡ decimal n) × (n < 2 ^ 64)
spelled {E} w r n digits plain h e =
    let read : Result ℕ E = Ok n in
    let parsed : OkIff read ((0 < length w) × (digits_value 10 w < 2 ^ 64)) (digits_value 10 w) =
    subst (λ (q : Result ℕ E). OkIff q ((0 < length w) × (digits_value 10 w < 2 ^ 64))
    (digits_value 10 w)) e (parse_digits own 64 w r h digits) in (
      sym (decimal-digits_value own w digits parsed.0.0 (one_digit w plain) parsed.0.1)
          ∙ ap decimal (sym parsed.1),
      omega (arith, parsed.0.1, parsed.1),
    )

-- a word that spells a number is read
pub unread : {E : Type 0} (w : List ℕ) (r : Result ℕ E) (x : E) → ParsesUnsigned 64 10 w r
    → r ≡ Err x → (n : ℕ) → n < 2 ^ 64 → w ≢ decimal n
unread w r x h e n small s = absurd (cc (parse-decimal 64 n w r small small s h))

-- a word spells one number
pub one_number : (w : List ℕ) (m n : ℕ) → m < 2 ^ 64 → n < 2 ^ 64 → w ≡ decimal m → w ≡ decimal n
    → m ≡ n
one_number w m n h k e f = decimal_injective m n h k (sym e ∙ f)
