-- Signed bounds. A signed number is kept as its biased number, the unsigned number that is 2^63
-- above it, so that the signed order is the order of biased numbers.
use Rattle.std.specs.Prelude.{◌≡◌, ℕ, ◌+◌, ◌*◌, ◌%◌, ◌<◌, ◌≤◌, ◌^◌, ◌⊎◌}
use Rattle.isa.specs.declared.instruction.Width.{Width}
use Rattle.isa.specs.declared.instruction.Width.TheVariants.{Bits64}
use Rattle.isa.specs.declared.instruction.Operation.{Operation}
use Rattle.isa.specs.declared.instruction.Operation.TheVariants.{Add, Subtract, Move}
use Rattle.isa.specs.declared.instruction.Test.{Test}
use Rattle.isa.specs.declared.instruction.Test.TheVariants.{Equal, NotEqual, SignedGreater}
use Rattle.isa.specs.declared.instruction.Test.TheVariants.{SignedGreaterOrEqual, SignedLess}
use Rattle.isa.specs.declared.instruction.Test.TheVariants.{SignedLessOrEqual}
use Rattle.interval.specs.Bounds.{Bounds}

-- The biased number of what a register holds, and what it holds for a biased number.
abbrev pub biased_number : ℕ → ℕ
biased_number n = (n + 2 ^ 63) % 2 ^ 64

abbrev pub biased_bounds : Bounds → Bounds
biased_bounds b = record { low = biased_number b.low; high = biased_number b.high }

-- The numbers lie on one side of 2^63: all or none are negative, so that biased they are a span
-- too.
abbrev pub IsOnOneSide : Bounds → Type 0
IsOnOneSide b = (b.high < 2 ^ 63) ⊎ (2 ^ 63 ≤ b.low)

-- If one pair of bounds doesn't cross 2^63, which as a signed number is 0, both are the same.
abbrev pub AreNarrowed : Bounds → Bounds → Type 0
AreNarrowed unsigned signed =
    IsOnOneSide unsigned ⊎ IsOnOneSide signed → signed ≡ biased_bounds unsigned

-- The signed bounds of 64-bit results, from those of the operands: exact if no sum or difference
-- overflows as a signed number.
abbrev pub IsNarrowSigned : Width → Operation → Bounds → Bounds → Bounds → Type 0
IsNarrowSigned Bits64 Add l r result =
    2 ^ 63 ≤ l.low + r.low → l.high + r.high < 3 * 2 ^ 63
    → (result.low + 2 ^ 63 ≡ l.low + r.low) × (result.high + 2 ^ 63 ≡ l.high + r.high)
IsNarrowSigned Bits64 Subtract l r result =
    r.high ≤ l.low + 2 ^ 63 → l.high < r.low + 2 ^ 63
    → (result.low + r.high ≡ l.low + 2 ^ 63) × (result.high + r.low ≡ l.high + 2 ^ 63)
IsNarrowSigned Bits64 Move l r result = result ≡ r
IsNarrowSigned w other l r result = Unit {0}

-- The tests that trim signed bounds: the signed orders and equality, of 64 bits.
abbrev pub TrimsSigned : Width → Test → Type 0
TrimsSigned Bits64 Equal = Unit {0}
TrimsSigned Bits64 NotEqual = Unit {0}
TrimsSigned Bits64 SignedGreater = Unit {0}
TrimsSigned Bits64 SignedGreaterOrEqual = Unit {0}
TrimsSigned Bits64 SignedLess = Unit {0}
TrimsSigned Bits64 SignedLessOrEqual = Unit {0}
TrimsSigned w other = ⊥
