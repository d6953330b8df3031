-- A number with few bits has none of the bits above.
use Rattle.std.proofs.Common.{◌≡◌, ℕ, ◌-◌, ◌*◌, ◌/◌, ◌^◌, ◌<◌, ◌≤◌, ◌∙◌, arith}
use Rattle.std.specs.Prelude.{bit_and}
use Rattle.std.proofs.lemmas.Nat.Bits.{and_high_mask}

pub most : (k n : ℕ) → n < 2 ^ k → n ≤ 2 ^ k - 1
most k n low = omega arith

pub above_byte : (n : ℕ) → n < 2 ^ 8 → bit_and n (2 ^ 64 - 2 ^ 8) ≡ 0
above_byte n low =
    let none : n / 2 ^ 8 * 2 ^ 8 ≡ 0 = omega arith in
    and_high_mask 64 8 (omega arith) n (omega arith) ∙ none

pub above_half : (n : ℕ) → n < 2 ^ 16 → bit_and n (2 ^ 64 - 2 ^ 16) ≡ 0
above_half n low =
    let none : n / 2 ^ 16 * 2 ^ 16 ≡ 0 = omega arith in
    and_high_mask 64 16 (omega arith) n (omega arith) ∙ none

pub above_word : (n : ℕ) → n < 2 ^ 32 → bit_and n (2 ^ 64 - 2 ^ 32) ≡ 0
above_word n low =
    let none : n / 2 ^ 32 * 2 ^ 32 ≡ 0 = omega arith in
    and_high_mask 64 32 (omega arith) n (omega arith) ∙ none
