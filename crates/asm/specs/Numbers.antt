-- The numbers of a text in the fields that hold them.
use Rattle.std.specs.Prelude.{ℕ, ℤ, pos, negsuc, Option, Some, None, if◌then◌else◌, nat_lt}
use Rattle.asm.specs.declared.numeral.Numeral.{Numeral}
use Rattle.asm.specs.declared.numeral.Numeral.TheVariants.{Natural, Negative, Huge}

-- in a signed field, which holds the numbers from -`half` to `half` - 1
abbrev pub signed_in : ℕ → Numeral → Option ℤ
signed_in half (Natural n) = if nat_lt n half then Some (pos n) else None
signed_in half (Negative n) = if nat_lt n half then Some (negsuc n) else None
signed_in half Huge = None

-- in an unsigned field, which holds the numbers below `bound`
abbrev pub natural_in : ℕ → Numeral → Option ℕ
natural_in bound (Natural n) = if nat_lt n bound then Some n else None
natural_in bound other = None
