-- The two widths.
use Rattle.std.proofs.Common.{◌≡◌, ℕ, ◌+◌, ◌-◌, ◌%◌, ◌<◌, ◌≤◌, ◌^◌, sym, ap, ◌∙◌, refl, arith}
use Rattle.std.specs.Prelude.{bit_and}
use Rattle.std.specs.Int.{bit_at}
use Rattle.std.proofs.lemmas.Nat.{and_mask}
use Rattle.std.proofs.Math.Nat.{mod-eq_of_lt}
use Rattle.std.proofs.lemmas.Nat.Bits.{bit_at_ones}
use Rattle.isa.specs.declared.instruction.Extension.TheVariants as extensions
use Rattle.isa.specs.declared.instruction.SwapWidth.TheVariants as swaps
use Rattle.isa.specs.declared.instruction.ByteOrder.TheVariants as orders
use Rattle.absdom.specs.declared.unary.UnaryOperation.{UnaryOperation}
use Rattle.absdom.specs.declared.unary.UnaryOperation.TheVariants.{Negate, Extend, Reorder}
use Rattle.absdom.specs.Unary.{unary_result}
use Rattle.knownbits.specs.declared.value.KnownBits.{KnownBits}
use Rattle.knownbits.specs.Masks.{HasBits, KnowsBelow}
use Rattle.knownbits.specs.Known.{KnowsOne, shared_known, unary_width}
use Rattle.knownbits.proofs.BitLemmas.{both_known}
use Rattle.isa.specs.declared.instruction.Width.{Width}
use Rattle.isa.specs.declared.instruction.Width.TheVariants.{Bits32, Bits64}
use Rattle.isa.specs.Arithmetic.{bits, low}

pub width_most : (w : Width) → bits w ≤ 64
width_most Bits32 = omega arith
width_most Bits64 = omega arith

-- the low bits of the low 64 bits
pub low_of_word : (w : Width) (n : ℕ) → low w (n % 2 ^ 64) ≡ low w n
low_of_word Bits32 n = omega arith
low_of_word Bits64 n = omega arith

pub number_small : (w : Width) (n : ℕ) → n < 2 ^ bits w → n < 2 ^ 64
number_small Bits32 n small = omega arith
number_small Bits64 n small = small

pub low_fits : (w : Width) (n : ℕ) → n < 2 ^ bits w → low w n ≡ n
low_fits Bits32 n small = omega arith
low_fits Bits64 n small = omega arith

pub low_low : (w : Width) (n : ℕ) → low w (low w n) ≡ low w n
low_low Bits32 n = omega arith
low_low Bits64 n = omega arith

-- sums and differences of words, cut to the width
pub low_sum : (w : Width) (x y : ℕ) → low w ((x + y) % 2 ^ 64) ≡ low w (x + y)
low_sum w x y = low_of_word w (x + y)

pub low_difference : (w : Width) (x y : ℕ) → y < 2 ^ bits w
    → low w ((x + (2 ^ 64 - y)) % 2 ^ 64) ≡ low w (x + (2 ^ bits w - y))
low_difference Bits32 x y small = omega arith
low_difference Bits64 x y small = omega arith

-- if all bits are known, the number is the value
pub single_value : (known : KnownBits) (n : ℕ) → known.mask ≡ 18446744073709551615 → HasBits known n
    → known.value ≡ n
single_value known n whole inside =
    sym inside.bits ∙ ap (bit_and n) whole ∙ and_mask n 64 ∙ mod-eq_of_lt inside.small

pub whole_known : (known : KnownBits) → known.mask ≡ 18446744073709551615 → KnowsBelow known 64
whole_known known whole = λ i below. ap (λ m. bit_at m i) whole ∙ bit_at_ones 64 i below

-- an instruction that reads one number reads its low bits alone
pub unary_low : (operation : UnaryOperation) (n : ℕ)
    → unary_result operation (low (unary_width operation) n) ≡ unary_result operation n
unary_low (Negate Bits32) n = omega arith
unary_low (Negate Bits64) n = omega arith
unary_low (Extend (extensions.Byte Bits32)) n = let same : n % 2 ^ 32 % 2 ^ 8 ≡ n % 2 ^ 8 =
    omega arith in rw same refl
unary_low (Extend (extensions.Byte Bits64)) n = let same : n % 2 ^ 64 % 2 ^ 8 ≡ n % 2 ^ 8 =
    omega arith in rw same refl
unary_low (Extend (extensions.Half Bits32)) n = let same : n % 2 ^ 32 % 2 ^ 16 ≡ n % 2 ^ 16 =
    omega arith in rw same refl
unary_low (Extend (extensions.Half Bits64)) n = let same : n % 2 ^ 64 % 2 ^ 16 ≡ n % 2 ^ 16 =
    omega arith in rw same refl
unary_low (Extend extensions.Word) n = let same : n % 2 ^ 64 % 2 ^ 32 ≡ n % 2 ^ 32 = omega arith in
    rw same refl
unary_low (Reorder orders.Little swaps.Bits16) n = let same : n % 2 ^ 32 % 2 ^ 16 ≡ n % 2 ^ 16 =
    omega arith in rw same refl
unary_low (Reorder orders.Big swaps.Bits16) n = let same : n % 2 ^ 32 % 2 ^ 16 ≡ n % 2 ^ 16 =
    omega arith in rw same refl
unary_low (Reorder orders.Swap swaps.Bits16) n = let same : n % 2 ^ 32 % 2 ^ 16 ≡ n % 2 ^ 16 =
    omega arith in rw same refl
unary_low (Reorder orders.Little swaps.Bits32) n = let same : n % 2 ^ 32 % 2 ^ 32 ≡ n % 2 ^ 32 =
    omega arith in rw same refl
unary_low (Reorder orders.Big swaps.Bits32) n = let same : n % 2 ^ 32 % 2 ^ 32 ≡ n % 2 ^ 32 =
    omega arith in rw same refl
unary_low (Reorder orders.Swap swaps.Bits32) n = let same : n % 2 ^ 32 % 2 ^ 32 ≡ n % 2 ^ 32 =
    omega arith in rw same refl
unary_low (Reorder orders.Little swaps.Bits64) n = let same : n % 2 ^ 64 % 2 ^ 64 ≡ n % 2 ^ 64 =
    omega arith in rw same refl
unary_low (Reorder orders.Big swaps.Bits64) n = let same : n % 2 ^ 64 % 2 ^ 64 ≡ n % 2 ^ 64 =
    omega arith in rw same refl
unary_low (Reorder orders.Swap swaps.Bits64) n = let same : n % 2 ^ 64 % 2 ^ 64 ≡ n % 2 ^ 64 =
    omega arith in rw same refl

-- a low bit that is known to be 1 is still so in what is known of the low bits
pub shared_one : (w : Width) (known : KnownBits) (i : ℕ) → i < bits w → KnowsOne known i
    → KnowsOne (shared_known w known) i
shared_one Bits32 known i below one = (
  both_known known.mask 4294967295 i one.0 (bit_at_ones 32 i below),
  both_known known.value 4294967295 i one.1 (bit_at_ones 32 i below),
)
shared_one Bits64 known i below one = one
