-- Truth values as the bits of bytes: bit i of byte j is the one at 8 * j + i.
use Rattle.std.specs.Prelude.{ℕ, ◌+◌, ◌*◌, Bool, true, false, List, [], ◌∷◌}

abbrev pub bit : Bool → ℕ
bit true = 1
bit false = 0

-- eight truth values to a byte
abbrev pub packed_bits : List Bool → List ℕ
packed_bits (a ∷ b ∷ c ∷ d ∷ e ∷ f ∷ g ∷ h ∷ rest) =
    (bit a + 2 * bit b + 4 * bit c + 8 * bit d + 16 * bit e + 32 * bit f + 64 * bit g + 128 * bit h)
    ∷ packed_bits rest
packed_bits other = []
