-- Copies whose contents are unchanged, apart from aging. A copy has none if it is missing or at
-- MaxAge.
use Rattle.std.specs.Prelude.{◌≡◌, ◌⊎◌, Option, None}
use Rattle.words.specs.Numbers.{Moment}
use Rattle.lsdb.specs.Changes.{ContentsAgree}
use Rattle.lsdb.specs.Copies.{DatabaseCopy, contents_of}

-- neither the earlier copy at the moment `before` nor the present one at `moment` has contents
pub record StaysWithoutContents (before : Moment) (moment : Moment) (old : Option DatabaseCopy)
    (new : Option DatabaseCopy) : Type 0 where
  pub was : contents_of before old ≡ None
  pub is : contents_of moment new ≡ None

-- The contents of both copies agree, or neither has any. The same copy agrees with itself, though
-- it may have come to MaxAge between the two moments.
abbrev pub IsUnchangedApartFromAging : (before : Moment) → (moment : Moment)
    → (old : Option DatabaseCopy) → (new : Option DatabaseCopy) → Type 0
IsUnchangedApartFromAging before moment old new =
    ContentsAgree moment old new ⊎ StaysWithoutContents before moment old new
