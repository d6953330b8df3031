-- The value of a key before an edit.
use Rattle.std.specs.Prelude.{◌≡◌, ℕ, ◌<◌, List, Option, None, Some, slice_get}
use Rattle.words.specs.declared.key.Key.{Key}
use Rattle.keyed_map.specs.declared.slot.KeySlot.{KeySlot}
use Rattle.keyed_map.specs.declared.slot.KeySlot.TheVariants.{Gone, Holds}
use Rattle.keyed_map.specs.declared.slot.Edit.{Edit}

abbrev pub held_before : {X : Type 0} → Option (KeySlot X) → Option X
held_before None = None
held_before (Some Gone) = None
held_before (Some (Holds x)) = Some x

-- no edit before this index is of the key
abbrev pub IsFirst : {X : Type 0} → List (Edit X) → ℕ → Key → Type 0
IsFirst {X} edits place key =
    (at : ℕ) (edit : Edit X) → at < place → slice_get edits at ≡ Some edit → edit.key ≡ key → ⊥
