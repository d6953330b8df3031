-- Copies that say the same.
use Rattle.std.proofs.Common.{ℕ, inl, Bool, true, false, MatchBool, Some, None, refl}
use Rattle.std.specs.Prelude.{Option, IsTrue, ◌↔◌}
use Rattle.lsdb.specs.Changes.{ContentsAgree}
use Rattle.lsdb.specs.Copies.{DatabaseCopy}

-- each copy says the same as itself
pub says_as_itself : (moment : ℕ) (o : Option DatabaseCopy) → ContentsAgree moment o o
says_as_itself moment None = tt
says_as_itself moment (Some c) = (refl, inl (refl, refl))

-- what a test of two values means
pub by_test : (r : Bool) (P : Type 0) → MatchBool r P (P → ⊥) → IsTrue r ↔ P
by_test true P m = ((λ t. m), (λ p. refl))
by_test false P m = ((λ t. absurd cc), (λ p. absurd (m p)))
