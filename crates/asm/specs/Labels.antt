-- A table of labels.
use Rattle.std.specs.Prelude.{Option, Some, None}
use Rattle.std.specs.Str.{bytes_eq}
use Rattle.indexmap.specs.IndexMap.{IndexMap, get_by}
use denote.Ref.{Bor}
use Rattle.asm.specs.Words.{Word}
use Rattle.asm.specs.declared.labels.Place.{Place}

-- where the label with this name is, by the table
abbrev pub place_in : {S : Type 0} → IndexMap (Bor Word) Place S → Word → Option Place
place_in places word = get_by (λ (name : Bor Word). bytes_eq word name.now) places

-- the first place, if there is one, else the second
infixl 10 ◌or_else◌
abbrev pub ◌or_else◌ : Option Place → Option Place → Option Place
(Some place) or_else other = Some place
None or_else other = other
