-- A map of slots, some of them empty, and the edits that can be undone.
use Rattle.std.specs.Prelude.{◌≡◌, ℕ, ◌+◌, ◌-◌, Bool, true, false, if◌then◌else◌}
use Rattle.std.specs.Prelude.{List, [], ◌∷◌, Option, Some, None, IsSome}
use Rattle.std.specs.Prelude.{map as each}
use Rattle.std.specs.List.{filter}
use Rattle.std.specs.Ordering.{is_le}
use Rattle.std.specs.FinMap as map
use Rattle.words.specs.declared.key.Key.{Key}
use Rattle.keyed_map.specs.declared.slot.KeySlot.{KeySlot}
use Rattle.keyed_map.specs.declared.slot.KeySlot.TheVariants.{Gone, Holds}
use Rattle.keyed_map.specs.declared.slot.Edit.{Edit}
use Rattle.keyed_map.specs.Keys.{ByKey, key_cmp}

module _ {X : Type 0} where
  -- the entries whose slots aren't empty
  abbrev pub kept : List (Key × KeySlot X) → List (Key × X)
  kept [] = []
  kept ((k, Gone) ∷ es) = kept es
  kept ((k, Holds x) ∷ es) = (k, x) ∷ kept es

  abbrev pub kept_keys : List (Key × KeySlot X) → List Key
  kept_keys es = each (λ e. e.0) (kept es)

  unfoldable pub slots_of : List (Key × KeySlot X) → ByKey (KeySlot X)
  slots_of es = map.from_entries es

  -- the map without its empty slots
  unfoldable pub live : ByKey (KeySlot X) → ByKey X
  live m = map.from_entries (kept (map.entries m))

  -- the map with this slot's value at a key, or without the key if the slot is empty
  abbrev pub put_live : ByKey X → Key → KeySlot X → ByKey X
  put_live m k Gone = map.remove m k
  put_live m k (Holds x) = map.insert m k x

  abbrev pub put_back : Key → Option (KeySlot X) → ByKey (KeySlot X) → ByKey (KeySlot X)
  put_back k None m = map.remove m k
  put_back k (Some slot) m = map.insert m k slot

  abbrev pub undo : Edit X → ByKey (KeySlot X) → ByKey (KeySlot X)
  undo e m = put_back e.key e.before m

  -- a slot that an undo fills exists
  abbrev pub HasPlace : Key → Option (KeySlot X) → ByKey (KeySlot X) → Type 0
  HasPlace k None m = Unit {0}
  HasPlace k (Some slot) m = IsSome (map.get m k)

  abbrev pub Fits : Edit X → ByKey (KeySlot X) → Type 0
  Fits e m = HasPlace e.key e.before m

  -- the map before all edits, which were made in this order
  abbrev pub undone : List (Edit X) → ByKey (KeySlot X) → ByKey (KeySlot X)
  undone [] m = m
  undone (e ∷ es) m = undo e (undone es m)

  abbrev pub AllFit : List (Edit X) → ByKey (KeySlot X) → Type 0
  AllFit [] m = Unit {0}
  AllFit (e ∷ es) m = Fits e (undone es m) × AllFit es m

  abbrev pub holds : KeySlot X → Bool
  holds Gone = false
  holds (Holds x) = true

  -- the edits can be undone, and the two numbers count the keys now and before the edits
  abbrev pub IsKept : List (Edit X) → ByKey (KeySlot X) → ℕ → ℕ → Type 0
  IsKept es m len committed =
      AllFit es m × (len ≡ map.len (live m)) × (committed ≡ map.len (live (undone es m)))

-- the number of keys after one was set or removed, by whether it was held before and is now
abbrev pub count_after_change : Bool → Bool → ℕ → ℕ
count_after_change held true n = if held then n else n + 1
count_after_change held false n = if held then n - 1 else n

-- the keys from this one on
abbrev pub keys_from : Key → List Key → List Key
keys_from key ks = filter (λ k. is_le (key_cmp key k)) ks

-- the keys whose entries pass a test
abbrev pub keys_where : {X : Type 0} → (Key → X → Bool) → List (Key × X) → List Key
keys_where test es = each (λ e. e.0) (filter (λ e. test e.0 e.1) es)
