-- Biased numbers.
use Rattle.std.proofs.Common.{◌≡◌, ℕ, ◌+◌, ◌-◌, ◌*◌, ◌%◌, ◌<◌, ◌≤◌, ◌^◌, arith, sym, subst}
use Rattle.std.specs.Prelude.{IsTrue}
use Rattle.isa.specs.declared.instruction.Width.{Width}
use Rattle.isa.specs.declared.instruction.Width.TheVariants.{Bits64}
use Rattle.isa.specs.declared.instruction.Test.{Test}
use Rattle.isa.specs.Arithmetic.{low, test_holds}
use Rattle.interval.specs.Signs.{biased_number}

-- biasing a number twice gives it back
pub biased_twice : (n : ℕ) → n < 2 ^ 64 → biased_number (biased_number n) ≡ n
biased_twice n small = omega arith

pub meets_biased : (w : Width) (test : Test) (a b : ℕ) → a < 2 ^ 64 → b < 2 ^ 64
    → IsTrue (test_holds w test (low w a) (low w b))
    → IsTrue (test_holds w test (low w (biased_number (biased_number a)))
    (low w (biased_number (biased_number b))))
meets_biased w test a b small small' meets =
    subst (λ x. IsTrue (test_holds w test (low w x) (low w (biased_number (biased_number b)))))
    (sym (biased_twice a small))
    (subst (λ y. IsTrue (test_holds w test (low w a) (low w y))) (sym (biased_twice b small'))
    meets)

pub sum_biased : (a b : ℕ) → (biased_number a + biased_number b + 2 ^ 63) % 2 ^ 64
    ≡ biased_number (low Bits64 (a + b))
sum_biased a b = omega arith

pub difference_biased : (a b : ℕ) → b < 2 ^ 64
    → (biased_number a + (3 * 2 ^ 63 - biased_number b)) % 2 ^ 64
    ≡ biased_number (low Bits64 (a + (2 ^ 64 - b)))
difference_biased a b small = omega arith

pub sum_most : (k a b x y : ℕ) → a ≤ x → b ≤ y → a + b + k ≤ x + y + k
sum_most k a b x y le le' = omega arith

pub difference_most : (k a b x y : ℕ) → a ≤ x → y ≤ b → a + (k - b) ≤ x + (k - y)
difference_most k a b x y le le' = omega arith
