-- A number of seats is a word that is no flag, and clap takes it.
use Rattle.std.proofs.Common.{◌≡◌, ◌≢◌, ◌≤◌, refl, arith, ℕ, [], ◌∷◌, inl, false, true}
use Rattle.std.proofs.lemmas.Int.{ints}
use Rattle.std.specs.Prelude.{◌==◌, ◌≤ℤ◌, FitsSigned, pos}
use mir.Syntax.{w64}
use Rattle.std.specs.Str.Parse.{IsNumeral, signed_digits_value, without_leading_plus}
use Rattle.std.specs.Str.Parse.{without_leading_sign}
use Rattle.clap.proofs.ValueTestLemmas.{Accepts-accepts}
use Rattle.clap.specs.Lexer.{without_minus}
use Rattle.clap.specs.ValueTests.{accepts}
use Rattle.clap.specs.Walk.{Text}
use Rattle.clap.specs.declared.builder.value_parser.ValueParser.TheVariants.{Signed}
use Rattle.commands.proofs.Plain.{NoFlag, no_flag}
use Rattle.commands.specs.Requests.{IsSeats}

pub record TakenSeats (word : Text) : Type 0 where
  pub plain : NoFlag word
  pub unsigned : without_minus word ≡ word
  pub taken : accepts false (Signed (pos 1) (pos 64)) word ≡ true

-- a numeral doesn't begin with a hyphen
no_hyphen : (first : ℕ) (rest : Text) → IsNumeral 10 (without_leading_plus (first ∷ rest))
    → first ≢ 45
no_hyphen first rest numeral e =
    let digits : IsNumeral 10 (without_leading_plus (45 ∷ rest)) = rw e at numeral in
    absurd (omega (arith, digits.1.0))

fits_seats : (seats : ℕ) → seats ≤ 64 → FitsSigned w64 (pos seats)
fits_seats seats few = omega (arith, ints)

from_one : (seats : ℕ) → 1 ≤ seats → pos 1 ≤ℤ pos seats
from_one seats some = omega (arith, ints)

to_64 : (seats : ℕ) → seats ≤ 64 → pos seats ≤ℤ pos 64
to_64 seats few = omega (arith, ints)

pub taken_seats : (word : Text) (seats : ℕ) → IsSeats word seats → TakenSeats word
taken_seats [] seats is = absurd (omega (arith, is.0.0))
taken_seats (first ∷ rest) seats is =
    let other = no_hyphen first rest is.0 in
    let differs : (first == 45) ≡ false = grind arith in
    let same : without_leading_sign (first ∷ rest) ≡ without_leading_plus (first ∷ rest) =
    rw differs refl in
    let value : signed_digits_value 10 (first ∷ rest) ≡ pos seats = rw (differs, is.1) refl in
    record {
      plain = no_flag (first ∷ rest) (inl other);
      unsigned = rw differs refl;
      taken = Accepts-accepts false (Signed (pos 1) (pos 64)) (first ∷ rest) (
        rw same is.0,
        rw value (fits_seats seats is.3),
        rw value (from_one seats is.2),
        rw value (to_64 seats is.3),
      );
    }
