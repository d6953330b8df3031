-- Where pointers lead after a number is added.
use Rattle.std.specs.Prelude.{◌≡◌, ℕ, ℤ}
use Rattle.isa.specs.Arithmetic.{widened_immediate}
use Rattle.machine.specs.declared.state.Content.{Content}
use Rattle.machine.specs.declared.state.Content.TheVariants as contents
use Rattle.machine.specs.declared.state.Pointer.{Pointer}
use Rattle.machine.specs.Memory.{at_distance}
use Rattle.kinds.specs.declared.state.PointerPlace.{PointerPlace}
use Rattle.kinds.specs.declared.state.Kind.{Kind}
use Rattle.kinds.specs.Meaning.{PlaceHolds, KindHolds}

-- a pointer to one place, at the distance that one of the value's numbers gives, points to the
-- other place
abbrev pub LeadsTo : {D : Type 0} → (D → ℕ → Type 0) → PointerPlace D → D → (ℕ → ℕ) → PointerPlace D
    → Type 0
LeadsTo contains place value distance after =
    (pointer : Pointer) (number : ℕ) → PlaceHolds contains place pointer → contains value number
    → PlaceHolds contains after (at_distance pointer (distance number))

-- each content of the kind is a pointer, and with the offset added it points to the place
abbrev pub Reaches : {D : Type 0} → (D → ℕ → Type 0) → Kind D → ℤ → PointerPlace D → Type 0
Reaches contains base offset place =
    (content : Content) → KindHolds contains base content
    → (p : Pointer) × (content ≡ contents.Address p)
    × PlaceHolds contains place (at_distance p (widened_immediate offset))
