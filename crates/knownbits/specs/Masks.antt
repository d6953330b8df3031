-- Numbers below 2^64 with some known bits.
use Rattle.std.specs.Prelude.{◌≡◌, ℕ, ◌<◌, ◌^◌, bit_and}
use Rattle.std.specs.Int.{bit_at}
use Rattle.knownbits.specs.declared.value.KnownBits.{KnownBits}

-- the bits under the mask are those of the value
pub record HasBits (known : KnownBits) (n : ℕ) : Type 0 where
  pub bits : bit_and n known.mask ≡ known.value
  pub small : n < 2 ^ 64

-- bit i of each number is known
abbrev pub Knows : KnownBits → ℕ → Type 0
Knows known i = bit_at known.mask i ≡ 1

-- the low `count` bits are known
abbrev pub KnowsBelow : KnownBits → ℕ → Type 0
KnowsBelow known count = (i : ℕ) → i < count → Knows known i

-- the value has no bit outside the mask
abbrev pub IsWithinMask : KnownBits → Type 0
IsWithinMask known = bit_and known.value known.mask ≡ known.value
