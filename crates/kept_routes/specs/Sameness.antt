-- LSAs that are unchanged (RFC 2328, section 16).
use Rattle.std.specs.Prelude.{◌≡◌, ℕ, Option, Some}
use Rattle.std.specs.FinMap as finite
use Rattle.lsdb.specs.Changes.{IsUpTo, ContentsAgree}
use Rattle.lsdb.specs.Copies.{Database, DatabaseCopy}
use Rattle.kept_routes.specs.Ages.{HasNotJustReachedMaxAge}
use Rattle.routes.specs.Contents.{Contents}
use Rattle.words.specs.Numbers.{Moment}
use Rattle.words.specs.declared.key.Key.{Key}

-- the LSAs of the types up to this one, or of all types if there is none, say the same
abbrev pub HaveSameContents : Option ℕ → Contents → Contents → Type 0
HaveSameContents last_type old new = (key : Key) → IsUpTo last_type key → old key ≡ new key

-- since the moment `before`, the LSA with a key wasn't added or removed, didn't reach MaxAge and
-- didn't change its contents; another instance below MaxAge with the same contents is no change
-- (section 13.2)
pub record IsLsaUnchanged (before : Moment) (moment : Moment) (old : Option DatabaseCopy)
    (new : Option DatabaseCopy) : Type 0 where
  pub same : ContentsAgree moment old new
  pub not_just_aged : (copy : DatabaseCopy) → new ≡ Some copy
      → HasNotJustReachedMaxAge before moment copy

-- the same for the LSAs of the types up to this one, or of all types if there is none
abbrev pub AreLsasUnchanged : Option ℕ → (before : Moment) → (moment : Moment) → (old : Database)
    → (new : Database) → Type 0
AreLsasUnchanged last_type before moment old new =
    (key : Key) → IsUpTo last_type key
    → IsLsaUnchanged before moment (finite.get old key) (finite.get new key)
