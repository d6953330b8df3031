-- A text is lines, and a line is words.
use Rattle.std.specs.Prelude.{◌≡◌, ℕ, Bool, List, [], ◌∷◌, ◌++◌, Option, Some, None, filter, length}
use Rattle.std.specs.Prelude.{not, ◌==◌}
use Rattle.std.specs.List.{slice_split}
use Rattle.asm.specs.Forms.{Spells}
use Rattle.asm.specs.Words.{Word}
use Rattle.asm.specs.declared.line.AssemblyLine.{AssemblyLine}

-- between line feeds (10)
abbrev pub lines_in : List ℕ → List (List ℕ)
lines_in text = slice_split (λ byte. byte == 10) text

abbrev pub has_bytes : Word → Bool
has_bytes word = not (length word == 0)

-- between spaces (32), of which there may be several
abbrev pub words_in : List ℕ → List Word
words_in line = filter has_bytes (slice_split (λ byte. byte == 32) line)

-- what words spell: a line with a label's name, or nothing
abbrev pub Reads : List Word → Option (AssemblyLine × Word) → Type 0
Reads words (Some item) = Spells words item.0 item.1
Reads words None = (line : AssemblyLine) (name : Word) → Spells words line name → ⊥

-- what each line of a text spells
abbrev pub Readings : List (List ℕ) → List (Option (AssemblyLine × Word)) → Type 0
Readings [] [] = Unit {0}
Readings [] (reading ∷ readings) = ⊥
Readings (line ∷ lines) [] = ⊥
Readings (line ∷ lines) (reading ∷ readings) = Reads (words_in line) reading
    × Readings lines readings

-- `new` is `old` with what the words spell at its end
abbrev pub AddsReading : List Word → List (Option (AssemblyLine × Word))
    → List (Option (AssemblyLine × Word)) → Type 0
AddsReading words old new = (reading : Option (AssemblyLine × Word)) × Reads words reading
    × (new ≡ old ++ reading ∷ [])
