use Rattle.std.proofs.Common.{◌≡◌, ℕ, zero, suc, ◌-◌, ◌%◌, ◌<◌, ◌≤◌, ◌^◌, min, arith, sym, ◌∙◌}
use Rattle.std.proofs.Common.{subst}
use Rattle.std.proofs.Common.{⊎_elim}
use Rattle.std.specs.Prelude.{bit_and}
use Rattle.std.specs.Int.{bit_at, trailing_zeros, w64}
use Rattle.std.proofs.lemmas.Bool.{cases_lt}
use Rattle.std.proofs.lemmas.Nat.{and_le_l, and_mask}
use Rattle.std.proofs.lemmas.Nat.Bits.{bit_at_and, bit_at-zero, bit_at_ones_above}
use Rattle.std.proofs.lemmas.Nat.Bits.{same_from_bits_below, bit_at-trailing_zeros}
use Rattle.interval.proofs.domain.IntervalDomain.multiple.Goals as goal

bit_of_zero : (n l : ℕ) → n ≡ 0 → min n l ≡ 0
bit_of_zero n l none = omega arith

bit_past_end : (n l : ℕ) → l ≡ 0 → min n l ≡ 0
bit_past_end n l none = omega arith

and_below : (a b : ℕ) → a < 2 ^ 64 → bit_and a b < 2 ^ 64
and_below a b small = omega (arith, and_le_l a b)

-- if the low bits are 0, their power of two divides
low_zeros : (n k : ℕ) → n < 2 ^ 64 → ((i : ℕ) → i < k → bit_at n i ≡ 0) → n % 2 ^ k ≡ 0
low_zeros n k small zeros =
    rw (← and_mask n k)
    (same_from_bits_below 64 _ _ (and_below _ _ small) (omega arith)
    (λ i below. simp bit_at_and
    (⊎_elim (λ (low : i < k). bit_of_zero (bit_at n i) (bit_at (2 ^ k - 1) i) (zeros i low))
    (λ (high : k ≤ i). bit_past_end (bit_at n i) (bit_at (2 ^ k - 1) i)
    (bit_at_ones_above k i high)) (cases_lt i k)
    ∙ sym (bit_at-zero i))))

trailing : (n : ℕ) → n < 2 ^ 64 → n % 2 ^ trailing_zeros w64 n ≡ 0
trailing zero small = omega arith
trailing (suc n) small = low_zeros (suc n) _ small
    ((bit_at-trailing_zeros w64 (suc n) (omega arith) small).2)

pub returns-then-self-clause-holds : goal.returns-then-self-clause-holds
returns-then-self-clause-holds c = λ n inside.
    let same : c.args.self.unsigned.low ≡ n = let e = c.if-self.true in
    omega (arith, inside.unsigned.low, inside.unsigned.high) in
    subst (λ m. n % 2 ^ trailing_zeros w64 m ≡ 0) (sym same) (trailing n inside.unsigned.small)
