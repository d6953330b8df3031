-- How offers are gathered: each step adds what one source offers, and nothing else.
use Rattle.std.specs.Prelude.{◌≡◌, ◌<◌, ◌↔◌, ◌⊎◌, List, Option, Some, None}
use Rattle.std.specs.List.{Contains}
use Rattle.routes.specs.declared.offer.Offer.{Offer}

-- the only one of which P holds, or None if there is none
abbrev pub IsOnly : {X : Type 0} → (X → Type 0) → Option X → Type 0
IsOnly {X} P None = (x : X) → P x → ⊥
IsOnly {X} P (Some it) = (x : X) → P x ↔ (x ≡ it)

-- the new list has exactly the elements of the old one and the offers of which P holds
abbrev pub Adds : List Offer → List Offer → (Offer → Type 0) → Type 0
Adds old new P = (o : Offer) → Contains new o ↔ (Contains old o ⊎ P o)

-- one of them offers it
abbrev pub OfEach : {X : Type 0} → (X → Offer → Type 0) → List X → Offer → Type 0
OfEach {X} Q xs o = (x : X) × Contains xs x × Q x o

-- so that their costs plus a metric fit in 32 bits
abbrev pub OfferCostsFit : List Offer → Type 0
OfferCostsFit offers = (o : Offer) → Contains offers o → o.cost < 2147483648
