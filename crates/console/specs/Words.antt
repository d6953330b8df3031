-- The words of a line.
use Rattle.std.specs.Prelude.{ℕ, List, ◌==◌}
use Rattle.std.specs.List.{slice_split}

abbrev pub Word : Type 0
Word = List ℕ

-- The words of a line are separated by its spaces (32): between two adjacent spaces, or beside one
-- at an end, there is an empty word.
abbrev pub words_in : List ℕ → List Word
words_in line = slice_split (λ byte. byte == 32) line
