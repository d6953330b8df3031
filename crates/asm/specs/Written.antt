-- How a line is written: a word for each part of its form, separated by single spaces.
use Rattle.std.specs.Prelude.{◌≡◌, ℕ, ◌+◌, List, [], ◌∷◌, ◌++◌, map, Option, Some, true}
use Rattle.std.specs.Prelude.{false, codes}
use Rattle.std.specs.Fmt.{decimal}
use Rattle.asm.specs.declared.numeral.Numeral.{Numeral}
use Rattle.asm.specs.declared.numeral.Numeral.TheVariants as numerals
use Rattle.asm.specs.declared.line.AssemblyLine.{AssemblyLine}
use Rattle.asm.specs.Forms.{Part, Exactly, Number, Distance, Name, Definition, Matches}
use Rattle.asm.specs.Forms.{form_of, names_label}
use Rattle.asm.specs.Names.{is_name}
use Rattle.asm.specs.Words.{Word, is_word}
use Rattle.asm.specs.Text.{lines_in, Readings}

-- A number that no field holds is written as 2 ^ 64.
abbrev pub number_word : Numeral → Word
number_word (numerals.Natural n) = decimal n
number_word (numerals.Negative n) = 45 ∷ decimal (n + 1)
number_word numerals.Huge = codes "18446744073709551616"

abbrev pub distance_word : Numeral → Word
distance_word (numerals.Natural n) = 43 ∷ decimal n
distance_word (numerals.Negative n) = 45 ∷ decimal (n + 1)
distance_word numerals.Huge = codes "+18446744073709551616"

abbrev pub part_word : Part → Word
part_word (Exactly text) = text
part_word (Number n) = number_word n
part_word (Distance n) = distance_word n
part_word (Name name) = name
part_word (Definition name) = name ++ 58 ∷ []

-- the words, each with a space (32) before it
abbrev pub each_after_a_space : List Part → List ℕ
each_after_a_space [] = []
each_after_a_space (part ∷ parts) = 32 ∷ (part_word part ++ each_after_a_space parts)

-- the words between single spaces
abbrev pub between_spaces : List Part → List ℕ
between_spaces [] = []
between_spaces (part ∷ parts) = part_word part ++ each_after_a_space parts

-- the bytes of a line, with a line feed (10) at their end
abbrev pub line_text : AssemblyLine → Word → List ℕ
line_text line name = between_spaces (form_of line name) ++ 10 ∷ []

-- If the line defines or uses a label, this is a label's name; else it is empty.
abbrev pub IsNamed : AssemblyLine → Word → Type 0
IsNamed line name = (names_label line ≡ true → is_name name ≡ true)
    × (names_label line ≡ false → name ≡ [])

-- The part is written as one word, which matches it.
pub record IsWritten (part : Part) : Type 0 where
  pub one_word : is_word (part_word part) ≡ true
  pub matches : Matches part (part_word part)

abbrev pub AreWritten : List Part → Type 0
AreWritten [] = Unit {0}
AreWritten (part ∷ parts) = IsWritten part × AreWritten parts

-- `new` is `old` followed by these parts, each after a space.
pub record Adds (old new : List ℕ) (parts : List Part) : Type 0 where
  pub bytes : new ≡ old ++ each_after_a_space parts
  pub written : AreWritten parts

-- `new` is `old` followed by these parts, separated by spaces.
pub record Starts (old new : List ℕ) (parts : List Part) : Type 0 where
  pub bytes : new ≡ old ++ between_spaces parts
  pub written : AreWritten parts

-- ---- whole texts

abbrev pub some_reading : AssemblyLine × Word → Option (AssemblyLine × Word)
some_reading item = Some item

-- The text is these lines, each with a line feed at its end.
pub record AreLines (text : List ℕ) (items : List (AssemblyLine × Word)) : Type 0 where
  pub front : List (List ℕ)
  pub lines : lines_in text ≡ front ++ [] ∷ []
  pub read : Readings front (map some_reading items)
