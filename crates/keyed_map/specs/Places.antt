-- Where an item of a list in pages is.
use Rattle.std.specs.Prelude.{◌≡◌, ℕ, ◌+◌, ◌<◌, ◌≤◌, ◌++◌, ◌∷◌, List, length, slice_get}
use Rattle.std.specs.List.{flat_map}

-- the items of the pages, in order
abbrev pub joined : {X : Type 0} → List (List X) → List X
joined pages = flat_map (λ page. page) pages

-- before the item at `index` of the whole list stand `at` pages, and `within` items of the next one
pub record IsPlace {X : Type 0} (pages : List (List X)) (at : ℕ) (index : ℕ) (within : ℕ)
    : Type 0 where
  pub before : List (List X)
  pub page : List X
  pub behind : List (List X)
  pub are : pages ≡ before ++ page ∷ behind
  pub is_index : index ≡ length before
  pub inside : within ≤ length page
  pub counts : at ≡ length (joined before) + within

-- and that page has the item
pub record IsThere {X : Type 0} (pages : List (List X)) (at : ℕ) (index : ℕ) (within : ℕ)
    : Type 0 where
  pub place : IsPlace pages at index within
  pub has : within < length place.page

-- items from this index on, and at least one unless there is none
pub record IsPartFrom {X : Type 0} (items : List X) (at : ℕ) (part : List X) : Type 0 where
  pub each : (k : ℕ) → k < length part → slice_get part k ≡ slice_get items (at + k)
  pub within : at ≤ length items → at + length part ≤ length items
  pub some : at < length items → 0 < length part
