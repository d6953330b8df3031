-- Copies that had reached MaxAge at an earlier moment.
use Rattle.std.specs.Prelude.{◌≡◌, ℕ, List, Option, Some, true}
use Rattle.std.specs.FinMap as finite
use Rattle.std.specs.List.{Contains}
use Rattle.lsdb.specs.Changes.{IsUpTo}
use Rattle.lsdb.specs.Copies.{Database, DatabaseCopy, is_aged_out}
use Rattle.words.specs.Numbers.{Moment}
use Rattle.words.specs.declared.key.Key.{Key}

-- if the copy has MaxAge, it had it at the moment `before`
abbrev pub HasNotJustReachedMaxAge : (before : Moment) → (moment : Moment) → DatabaseCopy → Type 0
HasNotJustReachedMaxAge before moment copy = is_aged_out moment copy ≡ true
    → is_aged_out before copy ≡ true

-- the same for the copy with this key, if its type is up to this one
abbrev pub HasNotJustAgedOut : Option ℕ → (before : Moment) → (moment : Moment) → Database → Key
    → Type 0
HasNotJustAgedOut last_type before moment db key =
    (copy : DatabaseCopy) → IsUpTo last_type key → finite.get db key ≡ Some copy
    → HasNotJustReachedMaxAge before moment copy

-- the same for each of these keys
abbrev pub HaveNotJustAgedOut : Option ℕ → (before : Moment) → (moment : Moment) → Database
    → List Key → Type 0
HaveNotJustAgedOut last_type before moment db keys =
    (key : Key) → Contains keys key → HasNotJustAgedOut last_type before moment db key
