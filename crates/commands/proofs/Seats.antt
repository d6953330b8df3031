-- The number of seats that a word spells.
use Rattle.std.proofs.Common.{◌≡◌, ◌∙◌, ◌≤◌, ap, sym, refl, arith, ℕ, Option, Some, None, Ok, Err}
use Rattle.std.specs.Prelude.{Result}
use Rattle.std.specs.Str.Parse.{IsNumeral, ParsesUnsigned, digits_value, without_leading_plus}
use Rattle.clap.specs.Matches.{ReadsOne}
use Rattle.clap.specs.Walk.{Text}
use Rattle.commands.specs.Requests.{IsSeats}
use Rattle.commands.proofs.Made.{some≢none, some_is}

-- a number that was read from a text is that of its digits
pub read_number : (E : Type 0) (G : Text → Result ℕ E → Type 0)
    → ((t : Text) (x : Result ℕ E) → G t x → ParsesUnsigned 8 10 t x)
    → (o : Option Text) (r : Option ℕ) (n : ℕ) → r ≡ Some n → (o ≡ None → r ≡ None)
    → ((t : Text) → o ≡ Some t → ReadsOne G t r)
    → (t : Text) × (o ≡ Some t) × IsNumeral 10 (without_leading_plus t)
    × (n ≡ digits_value 10 (without_leading_plus t))
read_number E G only None r n is none value = absurd (some≢none n (sym is ∙ none refl))
read_number E G only (Some t) None n is none value = absurd (some≢none n (sym is))
read_number E G only (Some t) (Some m) n is none value =
    let parsed = only t (Ok m) (value t refl) in
    (t, refl, parsed.0.0, sym (some_is is) ∙ parsed.1)

-- a number that isn't from 1 to 64 is no number of seats
pub far_from_seats : (E : Type 0) (G : Text → Result ℕ E → Type 0)
    → ((t : Text) (x : Result ℕ E) → G t x → ParsesUnsigned 8 10 t x)
    → (o : Option Text) (r : Option ℕ) (n : ℕ) → r ≡ Some n → (o ≡ None → r ≡ None)
    → ((t : Text) → o ≡ Some t → ReadsOne G t r) → (1 ≤ n → n ≤ 64 → ⊥)
    → (word : Text) (seats : ℕ) → o ≡ Some word → IsSeats word seats → ⊥
far_from_seats E G only o r n is none value far word seats has given =
    let read = read_number E G only o r n is none value in
    let same : read.0 ≡ word = some_is (sym read.1 ∙ has) in
    let equal : n ≡ seats = read.3 ∙ ap (λ t. digits_value 10 (without_leading_plus t)) same
    ∙ sym given.1 in
    far (omega (arith, equal, given.2)) (omega (arith, equal, given.3))

-- if none was read, there is no number of seats
pub unread_seats : (E : Type 0) (G : Text → Result ℕ E → Type 0)
    → ((t : Text) (x : Result ℕ E) → G t x → ParsesUnsigned 8 10 t x)
    → (o : Option Text) (r : Option ℕ) → r ≡ None → ((t : Text) → o ≡ Some t → ReadsOne G t r)
    → (word : Text) (seats : ℕ) → o ≡ Some word → IsSeats word seats → ⊥
unread_seats E G only o (Some n) is value word seats has given = some≢none n is
unread_seats E G only o None is value word seats has given =
    let read = value word has in
    only word (Err read.0) read.1 (given.0, omega (arith, given.1, given.3))
