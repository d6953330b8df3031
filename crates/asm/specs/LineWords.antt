-- The words that a line is written with, as parts of its form.
use Rattle.std.specs.Prelude.{◌≡◌, List, [], ◌∷◌, map, true}
use Rattle.asm.specs.Names.{is_name}
use Rattle.asm.specs.Words.{is_word}
use Rattle.asm.specs.declared.line_text.LineWord.{LineWord}
use Rattle.asm.specs.declared.line_text.LineWord.TheVariants as words
use Rattle.asm.specs.Forms.{Part, Exactly, Number, Distance, Name}

abbrev pub part : LineWord → Part
part (words.Exactly word) = Exactly word.now
part (words.Number n) = Number n
part (words.Distance n) = Distance n
part (words.Name name) = Name name.now

abbrev pub parts : List LineWord → List Part
parts words = map part words

-- A text is a word, and a name is a label's.
abbrev pub IsWhole : LineWord → Type 0
IsWhole (words.Exactly word) = is_word word.now ≡ true
IsWhole (words.Name name) = is_name name.now ≡ true
IsWhole number = Unit {0}

abbrev pub AreWhole : List LineWord → Type 0
AreWhole [] = Unit {0}
AreWhole (word ∷ words) = IsWhole word × AreWhole words
