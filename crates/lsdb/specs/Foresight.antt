-- What is known about when copies will reach MaxAge.
use Rattle.std.specs.Prelude.{◌≡◌, ◌<◌, Bool, true, false, Option, None, Some}
use Rattle.std.specs.FinMap as finite
use Rattle.words.specs.Numbers.{Moment}
use Rattle.words.specs.declared.key.Key.{Key}
use Rattle.lsdb.specs.Copies.{Database, DatabaseCopy, is_aged_out}
use Rattle.lsdb.specs.declared.ages.Ages.{Ages}

-- the copy exists, and has reached MaxAge
abbrev pub aged_at : Moment → Option DatabaseCopy → Bool
aged_at moment None = false
aged_at moment (Some c) = is_aged_out moment c

-- before `due`, this copy has MaxAge only if its key is among the aged keys
abbrev pub Foresees : Ages → Key → Option DatabaseCopy → Type 0
Foresees ages key copy =
    (moment : Moment) → moment < ages.due → aged_at moment copy ≡ true
    → finite.contains_key ages.aged.present key ≡ true

abbrev pub ForeseesAll : Ages → Database → Type 0
ForeseesAll ages d = (key : Key) → Foresees ages key (finite.get d key)
