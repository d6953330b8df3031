-- The numbers that words spell.
use Rattle.std.specs.Prelude.{ℤ, pos, negsuc, ℕ, ◌^◌, ◌-◌, Bool, List, [], ◌∷◌, length, Option}
use Rattle.std.specs.Prelude.{Some, None, if◌then◌else◌, nat_lt, ◌==◌, ◌&&◌, not}
use Rattle.std.specs.Str.{all_ascii_digits}
use Rattle.std.specs.Str.Parse.{digits_value}
use Rattle.asm.specs.declared.numeral.Numeral.{Numeral}
use Rattle.asm.specs.declared.numeral.Numeral.TheVariants.{Natural, Negative, Huge}

-- decimal digits, at least one
abbrev pub is_numeral : List ℕ → Bool
is_numeral word = all_ascii_digits word && not (length word == 0)

-- A number of 2 ^ 64 or more is in no field's range.
abbrev pub held : ℕ → Numeral
held n = if nat_lt n (2 ^ 64) then Natural n else Huge

abbrev pub natural_of : List ℕ → Option Numeral
natural_of word = if is_numeral word then Some (held (digits_value 10 word)) else None

abbrev pub negated_numeral : Numeral → Numeral
negated_numeral (Natural n) = if n == 0 then Natural 0
    else (if nat_lt (n - 1) (2 ^ 32) then Negative (n - 1) else Huge)
negated_numeral other = other

abbrev pub negated_some : Option Numeral → Option Numeral
negated_some (Some n) = Some (negated_numeral n)
negated_some None = None

abbrev pub negative_of : List ℕ → Option Numeral
negative_of word = negated_some (natural_of word)

-- A number is decimal digits, after a minus (45) if it is below 0.
abbrev pub number_of : List ℕ → Option Numeral
number_of [] = None
number_of (c ∷ cs) = if c == 45 then negative_of cs else natural_of (c ∷ cs)

-- A distance has its sign, a plus (43) or a minus.
abbrev pub distance_of : List ℕ → Option Numeral
distance_of [] = None
distance_of (c ∷ cs) = if c == 43 then natural_of cs else (if c == 45 then negative_of cs else None)

-- a signed number of 32 bits as a text writes it
abbrev pub numeral_of : ℤ → Numeral
numeral_of (pos n) = Natural n
numeral_of (negsuc n) = Negative n
