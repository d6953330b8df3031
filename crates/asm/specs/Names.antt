-- The name of a label: letters, digits and `_` (95), first a letter.
use Rattle.std.specs.Prelude.{ℕ, Bool, true, false, ◌&&◌, ◌||◌, nat_le, ◌==◌, List, [], ◌∷◌}
use Rattle.asm.specs.Words.{Word}

abbrev pub is_within : ℕ → ℕ → ℕ → Bool
is_within low high c = nat_le low c && nat_le c high

abbrev pub is_letter : ℕ → Bool
is_letter c = is_within 97 122 c || is_within 65 90 c

abbrev pub is_name_character : ℕ → Bool
is_name_character c = is_letter c || (is_within 48 57 c || c == 95)

abbrev pub are_name_characters : List ℕ → Bool
are_name_characters [] = true
are_name_characters (c ∷ cs) = is_name_character c && are_name_characters cs

abbrev pub is_name : Word → Bool
is_name [] = false
is_name (c ∷ cs) = is_letter c && are_name_characters cs
