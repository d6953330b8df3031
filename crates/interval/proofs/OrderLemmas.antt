-- A signed order, on numbers that aren't negative, is the unsigned order.
use Rattle.std.proofs.Common.{◌≡◌, ℕ, ◌*◌, ◌<◌, ◌≤◌, ◌^◌, Bool, arith, subst, None, Some}
use Rattle.std.specs.Prelude.{Option, IsTrue}
use Rattle.isa.specs.declared.instruction.Width.{Width}
use Rattle.isa.specs.declared.instruction.Test.{Test}
use Rattle.isa.specs.declared.instruction.Test.TheVariants.{Equal, Greater, GreaterOrEqual}
use Rattle.isa.specs.declared.instruction.Test.TheVariants.{AnyBitSet, NotEqual, SignedGreater}
use Rattle.isa.specs.declared.instruction.Test.TheVariants.{SignedGreaterOrEqual, Less, LessOrEqual}
use Rattle.isa.specs.declared.instruction.Test.TheVariants.{SignedLess, SignedLessOrEqual}
use Rattle.isa.specs.Arithmetic.{bits, test_holds}
use Rattle.interval.specs.declared.span.Span.{Span}
use Rattle.interval.specs.Bounds.{Bounds, bounds_of, IsBetween}
use Rattle.interval.specs.Order.{HasPartner, IsTightAnswer, StaysInside, AreNotNegative, IsUnsigned}
use Rattle.interval.specs.Order.{Trims}

-- a partner for one test is a partner for any other that holds of the same pairs
partner_same : (m n : ℕ → Bool) (b : Bounds) → ((k : ℕ) → IsBetween b k → m k ≡ n k)
    → HasPartner m b → HasPartner n b
partner_same m n b same found = (found.0, found.1, subst IsTrue (same found.0 found.1) found.2)

-- bounds that are tight for one test are tight for any other that holds of the same pairs
pub tight_other : (m n : ℕ → ℕ → Bool) (left right : Span) (answer : Option (Span × Span))
    → ((a b : ℕ) → a ≤ left.high → b ≤ right.high → m a b ≡ n a b) → StaysInside left right answer
    → IsTightAnswer m left right answer → IsTightAnswer n left right answer
tight_other m n left right None same inside tight = tt
tight_other m n left right (Some both) same inside tight =
    let low_most : both.0.low ≤ left.high = omega (arith, both.0.ordered, inside.0.high) in
    let low_most_right : both.1.low ≤ right.high = omega (arith, both.1.ordered, inside.1.high) in
    record {
      left_low = partner_same (m both.0.low) (n both.0.low) (bounds_of right)
          (λ k here. same both.0.low k low_most here.below) tight.left_low;
      left_high = partner_same (m both.0.high) (n both.0.high) (bounds_of right)
          (λ k here. same both.0.high k inside.0.high here.below) tight.left_high;
      right_low = partner_same (λ a. m a both.1.low) (λ a. n a both.1.low) (bounds_of left)
          (λ k here. same k both.1.low here.below low_most_right) tight.right_low;
      right_high = partner_same (λ a. m a both.1.high) (λ a. n a both.1.high) (bounds_of left)
          (λ k here. same k both.1.high here.below inside.1.high) tight.right_high;
    }

pub tight_same : (w : Width) (test other : Test) (left right : Span) (answer : Option (Span × Span))
    → AreNotNegative w left right → ((a b : ℕ) → 2 * a < 2 ^ bits w → 2 * b < 2 ^ bits w
    → test_holds w other a b ≡ test_holds w test a b) → StaysInside left right answer
    → IsTightAnswer (test_holds w other) left right answer
    → IsTightAnswer (test_holds w test) left right answer
tight_same w test other left right answer half same inside tight =
    tight_other (test_holds w other) (test_holds w test) left right answer
    (λ a b left_most right_most. same a b (omega (arith, left_most, half.left_small))
    (omega (arith, right_most, half.right_small)))
    inside tight

-- a test that trims even with negative numbers is an unsigned one
pub trims_unsigned : (test : Test) (w : Width) (left right : Span)
    → (AreNotNegative w left right → ⊥) → Trims test w left right → IsUnsigned test
trims_unsigned Equal w left right negative trims = tt
trims_unsigned Greater w left right negative trims = tt
trims_unsigned GreaterOrEqual w left right negative trims = tt
trims_unsigned AnyBitSet w left right negative trims = trims
trims_unsigned NotEqual w left right negative trims = tt
trims_unsigned SignedGreater w left right negative trims = negative trims
trims_unsigned SignedGreaterOrEqual w left right negative trims = negative trims
trims_unsigned Less w left right negative trims = tt
trims_unsigned LessOrEqual w left right negative trims = tt
trims_unsigned SignedLess w left right negative trims = negative trims
trims_unsigned SignedLessOrEqual w left right negative trims = negative trims

pub bits_trim_nothing : (test : Test) (w : Width) (left right : Span) → test ≡ AnyBitSet
    → Trims test w left right → ⊥
bits_trim_nothing test w left right is trims = subst (λ t. Trims t w left right) is trims
