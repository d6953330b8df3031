-- The pairs of numbers that meet a test, and how narrow their spans are.
use Rattle.std.specs.Prelude.{ℕ, ◌*◌, ◌<◌, ◌^◌, Bool, IsTrue, Option, IsSomeAnd, IfSome}
use Rattle.isa.specs.declared.instruction.Width.{Width}
use Rattle.isa.specs.declared.instruction.Test.{Test}
use Rattle.isa.specs.declared.instruction.Test.TheVariants.{AnyBitSet, SignedGreater}
use Rattle.isa.specs.declared.instruction.Test.TheVariants.{SignedGreaterOrEqual, SignedLess}
use Rattle.isa.specs.declared.instruction.Test.TheVariants.{SignedLessOrEqual}
use Rattle.isa.specs.Arithmetic.{bits, test_holds}
use Rattle.interval.specs.declared.span.Span.{Span}
use Rattle.interval.specs.Bounds.{IsIn, Bounds, bounds_of, IsInside, IsBetween}

-- Each pair that meets the test is in the answer, which is None only if no pair meets it.
abbrev pub KeepsPairs : (ℕ → ℕ → Bool) → Span → Span → Option (Span × Span) → Type 0
KeepsPairs meets left right answer =
    (a b : ℕ) → IsIn left a → IsIn right b → IsTrue (meets a b)
    → IsSomeAnd answer (λ both. IsIn both.0 a × IsIn both.1 b)

-- the number meets the test with one between the bounds
abbrev pub HasPartner : (ℕ → Bool) → Bounds → Type 0
HasPartner meets b = (n : ℕ) × IsBetween b n × IsTrue (meets n)

-- Each bound that is left belongs to a pair that meets the test, so no narrower spans have each
-- such pair, and if no pair meets it nothing is left.
pub record IsTight (meets : ℕ → ℕ → Bool) (l r left right : Bounds) : Type 0 where
  pub left_low : HasPartner (λ b. meets left.low b) r
  pub left_high : HasPartner (λ b. meets left.high b) r
  pub right_low : HasPartner (λ a. meets a right.low) l
  pub right_high : HasPartner (λ a. meets a right.high) l

abbrev pub StaysInside : Span → Span → Option (Span × Span) → Type 0
StaysInside left right answer =
    IfSome answer
    (λ both. IsInside (bounds_of both.0) (bounds_of left)
    × IsInside (bounds_of both.1) (bounds_of right))

abbrev pub IsTightAnswer : (ℕ → ℕ → Bool) → Span → Span → Option (Span × Span)
    → Type 0
IsTightAnswer meets left right answer =
    IfSome answer
    (λ both. IsTight meets (bounds_of left) (bounds_of right) (bounds_of both.0) (bounds_of both.1))

-- The test trims these spans: their numbers are of the width, and for a signed order none is
-- negative.
pub record AreOfWidth (w : Width) (left right : Span) : Type 0 where
  pub left_small : left.high < 2 ^ bits w
  pub right_small : right.high < 2 ^ bits w

pub record AreNotNegative (w : Width) (left right : Span) : Type 0 where
  pub left_small : 2 * left.high < 2 ^ bits w
  pub right_small : 2 * right.high < 2 ^ bits w

-- equality, or an unsigned order
abbrev pub IsUnsigned : Test → Type 0
IsUnsigned AnyBitSet = ⊥
IsUnsigned SignedGreater = ⊥
IsUnsigned SignedGreaterOrEqual = ⊥
IsUnsigned SignedLess = ⊥
IsUnsigned SignedLessOrEqual = ⊥
IsUnsigned other = Unit {0}

abbrev pub Trims : Test → Width → Span → Span → Type 0
Trims AnyBitSet w left right = ⊥
Trims SignedGreater w left right = AreNotNegative w left right
Trims SignedGreaterOrEqual w left right = AreNotNegative w left right
Trims SignedLess w left right = AreNotNegative w left right
Trims SignedLessOrEqual w left right = AreNotNegative w left right
Trims other w left right = AreOfWidth w left right

pub record IsTrimmed (test : Test) (w : Width) (left right : Span)
    (answer : Option (Span × Span)) : Type 0 where
  pub inside : StaysInside left right answer
  pub tight : Trims test w left right → IsTightAnswer (test_holds w test) left right answer
