-- What a thread sees of a clock.
use Rattle.std.specs.Prelude.{ℕ, max, Option, Some, None}

-- what was read, if it is later than this; and this, if nothing could be read
abbrev pub later : (last : ℕ) → (read : Option ℕ) → ℕ
later last None = last
later last (Some now) = max last now
