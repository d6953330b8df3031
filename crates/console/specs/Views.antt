-- How contracts see words that point into a text.
use Rattle.std.specs.Prelude.{List, map}
use Rattle.console.specs.Words.{Word}
use denote.Ref.{Bor}

abbrev pub views : List (Bor Word) → List Word
views words = map (λ (word : Bor Word). word.now) words
