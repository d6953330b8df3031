-- What two tests of the code imply together.
use Rattle.std.proofs.Common.{Bool, true, false, IsTrue, refl}
use mathlib.Core.Bool.{false≢true}
use Rattle.std.specs.Prelude.{not, ◌↔◌}

pub not_so : (b : Bool) (N : Type 0) → IsTrue b ↔ N → IsTrue (not b) ↔ (N → ⊥)
not_so true N tells = ((λ t. absurd (false≢true t)), (λ none. absurd (none (tells.0 refl))))
not_so false N tells = ((λ t n. false≢true (tells.1 n)), (λ none. refl))

-- if one doesn't hold, the other says whether it has to
pub left_out : (b : Bool) (N O : Type 0) → IsTrue b ↔ N → (O → ⊥) → IsTrue b ↔ ((N → ⊥) → O)
left_out true N O tells other = ((λ t counts. absurd (counts (tells.0 refl))), (λ all. refl))
left_out false N O tells other = (
  (λ t. absurd (false≢true t)),
  (λ all. absurd (other (all (λ n. false≢true (tells.1 n))))),
)
