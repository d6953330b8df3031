-- What contracts see of values that point into the text.
use Rattle.std.specs.Prelude.{List, [], ◌∷◌, map, Option, None, Some}
use Rattle.asm.specs.Forms.{Spells}
use Rattle.asm.specs.Words.{Word}
use Rattle.asm.specs.declared.line.AssemblyLine.{AssemblyLine}
use Rattle.asm.specs.declared.line.Item.{Item}
use Rattle.asm.specs.declared.line.LabelOrNumber.{LabelOrNumber}
use denote.Ref.{Bor}

-- the line, and the name beside it
abbrev pub item_view : Item → AssemblyLine × Word
item_view item = (item.line, item.name.now)

abbrev pub target_view : LabelOrNumber × Bor Word → LabelOrNumber × Word
target_view found = (found.0, found.1.now)

abbrev pub views : List (Bor Word) → List Word
views words = map (λ (word : Bor Word). word.now) words

-- what the lines of a text say, with the names beside them
abbrev pub item : Option AssemblyLine → Word → Option (AssemblyLine × Word)
item None name = None
item (Some line) name = Some (line, name)

abbrev pub items : List (Option AssemblyLine) → List (Bor Word)
    → List (Option (AssemblyLine × Word))
items [] names = []
items (line ∷ lines) [] = []
items (line ∷ lines) (name ∷ names) = item line name.now ∷ items lines names

-- the words spell the item
abbrev pub SpellsItem : List Word → Item → Type 0
SpellsItem words item = Spells words item.line item.name.now

-- the words spell the line, which names no label
abbrev pub SpellsPlain : List Word → AssemblyLine → Type 0
SpellsPlain words line = Spells words line []
