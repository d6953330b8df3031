-- Which copies have the contents of earlier copies of their keys (RFC 2328, section 13.2).
use Rattle.std.specs.Prelude.{◌≡◌, ◌⊎◌, ℕ, ◌≤◌, false, Option, None, Some}
use Rattle.lsdb.specs.Copies.{DatabaseCopy, is_aged_out}
use Rattle.words.specs.Numbers.{Moment}
use Rattle.words.specs.declared.key.Key.{Key}

-- a key of an LS type up to this one, or of any type if none is given
abbrev pub IsUpTo : Option ℕ → Key → Type 0
IsUpTo None key = Unit {0}
IsUpTo (Some last) key = key.ls_type ≤ last

-- both had the same age at the same moment
abbrev pub HaveSameStoredAge : DatabaseCopy → DatabaseCopy → Type 0
HaveSameStoredAge a b = (a.lsa.header.age ≡ b.lsa.header.age) × (a.stored ≡ b.stored)

-- neither has MaxAge at the moment
abbrev pub HaveNoMaxAge : Moment → DatabaseCopy → DatabaseCopy → Type 0
HaveNoMaxAge moment a b = (is_aged_out moment a ≡ false) × (is_aged_out moment b ≡ false)

-- The earlier copy and the present one say the same at the moment, or neither exists: their LSAs
-- have one body, and either had the same age at the same moment, or neither has MaxAge. The other
-- header fields don't matter, nor do the moments at which they were received and sent.
abbrev pub ContentsAgree : Moment → (before : Option DatabaseCopy) → (now : Option DatabaseCopy)
    → Type 0
ContentsAgree moment None None = Unit {0}
ContentsAgree moment None (Some b) = ⊥
ContentsAgree moment (Some a) None = ⊥
ContentsAgree moment (Some a) (Some b) =
    (a.lsa.body ≡ b.lsa.body) × (HaveSameStoredAge a b ⊎ HaveNoMaxAge moment a b)

-- the length of an LSA's header in bytes (RFC 2328, section A.4.1)
abbrev pub header_length : ℕ
header_length = 20
