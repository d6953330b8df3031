-- What is written is read back.
use Rattle.std.proofs.Common.{◌≡◌, ℕ, ◌+◌, ◌-◌, ◌<◌, ◌^◌, zero, List, [], ◌∷◌, ◌++◌}
use Rattle.std.proofs.Common.{length, Bool, true, false, refl, sym, ap, ◌∙◌}
use Rattle.std.proofs.Common.{arith, Some, None, append_assoc}
use Rattle.std.specs.Prelude.{if◌then◌else◌, is_ok, OnOk, Result, Ok, Err}
use Rattle.std.specs.List.{list_all}
use Rattle.std.specs.Str.{all_ascii_digits}
use Rattle.std.specs.Char.{is_ascii_digit}
use Rattle.std.specs.Str.Parse.{digits_value}
use Rattle.std.specs.Fmt.{decimal}
use Rattle.std.proofs.lemmas.Fmt.{digits_decimal, digits_value-decimal, decimal_nonempty}
use Rattle.std.proofs.lemmas.Str.Parse.{IsNumeralModel, numerals_by_value, tells_all_ascii_digits}
use Rattle.std.proofs.lemmas.Bool.Decides.{nat_tests}
use Rattle.std.proofs.lemmas.Bool.{ne_eqb, lt-ltb}
use Rattle.std.proofs.lemmas.List.{append-nil}
use Rattle.std.proofs.lemmas.List.Folds.{list_all-append}
use Rattle.asm.specs.declared.numeral.Numeral.TheVariants as numerals
use Rattle.asm.specs.WordNumbers.{number_of, natural_of, negative_of, is_numeral, held}
use Rattle.asm.specs.Forms.{Part, Number, Distance, Name, Definition}
use Rattle.asm.specs.Names.{is_letter, is_name_character, are_name_characters, is_name}
use Rattle.asm.specs.Words.{Word, is_inner, is_word}
use Rattle.asm.specs.Written.{part_word, each_after_a_space, IsWritten, AreWritten, Adds}
use Rattle.asm.specs.Written.{Starts}
use Rattle.asm.proofs.NoNumber.{both}

-- ---- one after the other

pub on_ok : {T E P Q : Type 0} (r : Result T E) → (P → Q) → OnOk r P → OnOk r Q
on_ok (Ok x) f h = f h
on_ok (Err e) f h = h

followed_more : (ps qs : List Part)
    → each_after_a_space (ps ++ qs) ≡ each_after_a_space ps ++ each_after_a_space qs
followed_more [] qs = refl
followed_more (p ∷ ps) qs = rw (followed_more ps qs, ← append_assoc) refl

written_more : (ps qs : List Part) → AreWritten ps → AreWritten qs → AreWritten (ps ++ qs)
written_more [] qs f g = g
written_more (p ∷ ps) qs f g = (f.0, written_more ps qs f.1 g)

pub more : {a b c : List ℕ} {ps qs : List Part} → Adds a b ps → Adds b c qs → Adds a c (ps ++ qs)
more {a} {b} {c} {ps} {qs} f g = record {
  bytes = rw (g.bytes, f.bytes, followed_more ps qs, append_assoc) refl;
  written = written_more ps qs f.written g.written;
}

pub go_on : {a b c : List ℕ} {p : Part} {ps qs : List Part} → Starts a b (p ∷ ps) → Adds b c qs
    → Starts a c (p ∷ (ps ++ qs))
go_on {a} {b} {c} {p} {ps} {qs} f g = record {
  bytes = rw (g.bytes, f.bytes, followed_more ps qs, append_assoc, append_assoc) refl;
  written = written_more (p ∷ ps) qs f.written g.written;
}

-- ---- numbers

pub own : IsNumeralModel (λ ds. all_ascii_digits ds ≡ true) (digits_value 10)
own = numerals_by_value _ tells_all_ascii_digits

digit_inner : (c : ℕ) → is_ascii_digit c ≡ true → is_inner c ≡ true
digit_inner c e = grind (arith, nat_tests)

digits_inner : (w : Word) → all_ascii_digits w ≡ true → list_all is_inner w ≡ true
digits_inner [] e = refl
digits_inner (c ∷ cs) e = let parts = both (is_ascii_digit c) (all_ascii_digits cs) e in
    rw (digit_inner c parts.0) (digits_inner cs parts.1)

digits_word : (w : Word) → all_ascii_digits w ≡ true → 0 < length w → is_word w ≡ true
digits_word [] e some = absurd (omega arith)
digits_word (c ∷ cs) e some = digits_inner (c ∷ cs) e

if_true : {A : Type 0} (b : Bool) (x y : A) → b ≡ true → (if b then x else y) ≡ x
if_true b x y e = rw e refl

numeral_digits : (w : Word) → all_ascii_digits w ≡ true → 0 < length w → is_numeral w ≡ true
numeral_digits w e some = rw (e, ne_eqb (length w) 0 (λ q. absurd (omega arith))) refl

natural_digits : (w : Word) → all_ascii_digits w ≡ true → 0 < length w
    → natural_of w ≡ Some (held (digits_value 10 w))
natural_digits w e some = if_true (is_numeral w) (Some (held (digits_value 10 w))) None
    (numeral_digits w e some)

digit_no_minus : (c : ℕ) → is_ascii_digit c ≡ true → c ≡ 45 → ⊥
digit_no_minus c e m = grind (arith, nat_tests)

number_digits : (w : Word) → all_ascii_digits w ≡ true → 0 < length w → number_of w ≡ natural_of w
number_digits [] e some = refl
number_digits (c ∷ cs) e some = rw
    (ne_eqb c 45 (digit_no_minus c (both (is_ascii_digit c) (all_ascii_digits cs) e).0)) refl

held_natural : (n : ℕ) → n < 2 ^ 64 → held n ≡ numerals.Natural n
held_natural n h = rw (lt-ltb n (2 ^ 64) h) refl

natural_decimal : (n : ℕ) → n < 2 ^ 64 → natural_of (decimal n) ≡ Some (numerals.Natural n)
natural_decimal n h = natural_digits (decimal n) (digits_decimal own n h) (decimal_nonempty n h)
    ∙ ap (λ k. Some (held k)) (digits_value-decimal own n h) ∙ ap Some (held_natural n h)

negative_decimal : (n : ℕ) → n < 2 ^ 32 → negative_of (decimal (n + 1)) ≡ Some (numerals.Negative n)
negative_decimal n h =
    let zero : Rattle.std.proofs.Common.eqb (n + 1) 0 ≡ false =
    ne_eqb (n + 1) 0 (λ e. absurd (omega arith)) in
    let back : n + 1 - 1 ≡ n = omega arith in
    rw (natural_decimal (n + 1) (omega arith), zero, back, lt-ltb n (2 ^ 32) h) refl

decimal_word : (n : ℕ) → n < 2 ^ 64 → is_word (decimal n) ≡ true
decimal_word n h = digits_word (decimal n) (digits_decimal own n h) (decimal_nonempty n h)

signed_word : (c n : ℕ) → is_inner c ≡ true → n < 2 ^ 64 → is_word (c ∷ decimal n) ≡ true
signed_word c n e h = rw e (digits_inner (decimal n) (digits_decimal own n h))

pub natural_number : (n : ℕ) → n < 2 ^ 64 → IsWritten (Number (numerals.Natural n))
natural_number n h = record {
  one_word = decimal_word n h;
  matches = number_digits (decimal n) (digits_decimal own n h) (decimal_nonempty n h)
      ∙ natural_decimal n h;
}

pub negative_number : (n : ℕ) → n < 2 ^ 32 → IsWritten (Number (numerals.Negative n))
negative_number n h = record {
  one_word = signed_word 45 (n + 1) refl (omega arith);
  matches = negative_decimal n h;
}

pub natural_distance : (n : ℕ) → n < 2 ^ 64 → IsWritten (Distance (numerals.Natural n))
natural_distance n h = record { one_word = signed_word 43 n refl h; matches = natural_decimal n h }

pub negative_distance : (n : ℕ) → n < 2 ^ 32 → IsWritten (Distance (numerals.Negative n))
negative_distance n h = record {
  one_word = signed_word 45 (n + 1) refl (omega arith);
  matches = negative_decimal n h;
}

pub huge_number : IsWritten (Number numerals.Huge)
huge_number = record { one_word = refl; matches = refl }

pub huge_distance : IsWritten (Distance numerals.Huge)
huge_distance = record { one_word = refl; matches = refl }

-- ---- names

letter_inner : (c : ℕ) → is_letter c ≡ true → is_inner c ≡ true
letter_inner c e = grind (arith, nat_tests)

character_inner : (c : ℕ) → is_name_character c ≡ true → is_inner c ≡ true
character_inner c e = grind (arith, nat_tests)

characters_inner : (w : Word) → are_name_characters w ≡ true → list_all is_inner w ≡ true
characters_inner [] e = refl
characters_inner (c ∷ cs) e = let parts = both (is_name_character c) (are_name_characters cs) e in
    rw (character_inner c parts.0) (characters_inner cs parts.1)

name_word : (w : Word) → is_name w ≡ true → is_word w ≡ true
name_word [] e = e
name_word (c ∷ cs) e = let parts = both (is_letter c) (are_name_characters cs) e in
    rw (letter_inner c parts.0) (characters_inner cs parts.1)

pub written_name : (w : Word) → is_name w ≡ true → IsWritten (Name w)
written_name w e = record { one_word = name_word w e; matches = (refl, e) }

inner_more : (w : Word) (c : ℕ) → list_all is_inner w ≡ true → is_inner c ≡ true
    → list_all is_inner (w ++ c ∷ []) ≡ true
inner_more w c e f = rw (list_all-append is_inner w (c ∷ []), e, f) refl

definition_word : (w : Word) → is_name w ≡ true → is_word (w ++ 58 ∷ []) ≡ true
definition_word [] e = refl
definition_word (c ∷ cs) e = let parts = both (is_letter c) (are_name_characters cs) e in
    rw (letter_inner c parts.0) (inner_more cs 58 (characters_inner cs parts.1) refl)

pub written_definition : (w : Word) → is_name w ≡ true → IsWritten (Definition w)
written_definition w e = record { one_word = definition_word w e; matches = (refl, e) }

-- ---- what a call that appends has added

append_one : (p : Part) → each_after_a_space (p ∷ []) ≡ 32 ∷ part_word p
append_one p = ap (λ rest. 32 ∷ rest) (append-nil (part_word p))

pub added : {T E : Type 0} (r : Result T E) (old new : List ℕ) (p : Part) → IsWritten p
    → OnOk r (new ≡ old ++ 32 ∷ part_word p) → OnOk r (Adds old new (p ∷ []))
added r old new p w h = on_ok r (λ e. record {
  bytes = e ∙ ap (λ more. old ++ more) (sym (append_one p));
  written = (w, tt);
}) h

pub started : {T E : Type 0} (r : Result T E) (old new : List ℕ) (p : Part) → IsWritten p
    → OnOk r (new ≡ old ++ part_word p) → OnOk r (Starts old new (p ∷ []))
started r old new p w h = on_ok r (λ e. record {
  bytes = e ∙ ap (λ more. old ++ more) (sym (append-nil (part_word p)));
  written = (w, tt);
}) h

-- an append whose contract gives the new bytes by its result
pub where_ok : {T E : Type 0} (r : Result T E) (old new other : List ℕ)
    → other ≡ (if is_ok r then new else old) → OnOk r (other ≡ new)
where_ok (Ok x) old new other e = e
where_ok (Err x) old new other e = tt

pub append_two : (old mid new a b : List ℕ) → mid ≡ old ++ a → new ≡ mid ++ b
    → new ≡ old ++ (a ++ b)
append_two old mid new a b e f = rw (f, e, append_assoc) refl
