-- Walks over next hops, and those that come back.
use Rattle.std.specs.Prelude.{◌≡◌, ℕ, ◌<◌, ◌≤◌, ◌⊎◌, ◌↔◌, List, Bool, true, false, not, length}
use Rattle.std.specs.Prelude.{slice_index_or, slice_set, count_by, take}
use Rattle.std.specs.List.{All, Contains}
use Rattle.routes.specs.declared.hop.Hop.{Hop}

-- a router is identified by its index
abbrev pub Place : Type 0
Place = ℕ

-- the hop is from and to one of the given number of routers
abbrev pub IsAmong : ℕ → Hop → Type 0
IsAmong routers hop = (hop.from < routers) × (hop.to < routers)

-- the first router forwards packets to the second
abbrev pub HandsTo : List Hop → Place → Place → Type 0
HandsTo hops from to = Contains hops (record { from = from; to = to })

-- a packet that starts at the first router may reach the second, over one hop or more
pub data Walk (hops : List Hop) (start : Place) : Place → Type 0 where
  OneHop : {end : Place} → HandsTo hops start end → Walk hops start end
  OneMore : {place end : Place} → Walk hops start place → HandsTo hops place end
      → Walk hops start end

-- a packet may come back to the router where it starts: the router is on a loop
abbrev pub ComesBack : List Hop → Place → Type 0
ComesBack hops place = Walk hops place place

abbrev pub IsMarked : List Bool → Place → Type 0
IsMarked marks place = slice_index_or marks place false ≡ true

-- of the given number of routers, exactly those on a loop are marked
pub record AreLoops (hops : List Hop) (routers : ℕ) (marks : List Bool) : Type 0 where
  pub count : length marks ≡ routers
  pub exact : (place : Place) → place < routers → IsMarked marks place ↔ ComesBack hops place

-- the given number of the routers are on a loop
abbrev pub IsCountOfLoops : List Hop → ℕ → ℕ → Type 0
IsCountOfLoops hops routers count =
    (marks : List Bool) × AreLoops hops routers marks × (count ≡ count_by (λ b. b) marks)

-- What the marks say in the course of that.

-- only routers that a packet may reach from the start are marked
abbrev pub AreReached : List Hop → Place → List Bool → Type 0
AreReached hops start marks = (place : Place) → IsMarked marks place → Walk hops start place

-- if the hop is from the start or a marked router, its end is marked
abbrev pub IsPassedOn : Place → List Bool → Hop → Type 0
IsPassedOn start marks hop =
    (hop.from ≡ start) ⊎ IsMarked marks hop.from → IsMarked marks hop.to

abbrev pub count_unmarked : List Bool → ℕ
count_unmarked marks = count_by not marks

-- the hop's end wasn't marked, and now is
pub record PassesOn (start : Place) (hop : Hop) (old new : List Bool) : Type 0 where
  pub leaves : (hop.from ≡ start) ⊎ IsMarked old hop.from
  pub before : slice_index_or old hop.to false ≡ false
  pub after : new ≡ slice_set old hop.to true

-- what holds after the given number of hops, by whether any of them led to a new mark
pub record IsSpread (hops : List Hop) (start : Place) (old marks : List Bool) (some : Bool)
    (count : ℕ) : Type 0 where
  pub sound : AreReached hops start marks
  pub fewer : some ≡ true → count_unmarked marks < count_unmarked old
  pub no_more : count_unmarked marks ≤ count_unmarked old
  pub closed : some ≡ false → All (IsPassedOn start marks) (take count hops)

abbrev pub reversed_hop : Hop → Hop
reversed_hop hop = record { from = hop.to; to = hop.from }

-- exactly what was marked before or is marked in both lists is marked
abbrev pub IsBoth : List Bool → List Bool → List Bool → List Bool → Place → Type 0
IsBoth one other old new place =
    IsMarked new place ↔ (IsMarked old place ⊎ (IsMarked one place × IsMarked other place))

-- exactly what was marked before is marked, and each router marked in `ahead` from which a packet
-- may reach the place
abbrev pub MarksBetween : List Hop → Place → List Bool → List Bool → List Bool → Type 0
MarksBetween hops place ahead old new = (k : Place) →
    IsMarked new k ↔ (IsMarked old k ⊎ (IsMarked ahead k × Walk hops k place))

-- each marked router is on a loop
abbrev pub GoesRoundOnly : List Hop → List Bool → Type 0
GoesRoundOnly hops marks = (place : Place) → IsMarked marks place → ComesBack hops place

-- each router that is on a loop with a marked one is marked
abbrev pub HoldsWholeLoops : List Hop → List Bool → Type 0
HoldsWholeLoops hops marks = (one other : Place) → IsMarked marks one
    → Walk hops one other → Walk hops other one → IsMarked marks other

-- all routers on loops through the place are marked, besides those marked before
pub record MarksLoopsAt (hops : List Hop) (place : Place) (old new : List Bool) : Type 0 where
  pub sound : GoesRoundOnly hops new
  pub whole : HoldsWholeLoops hops new
  pub kept : (k : Place) → IsMarked old k → IsMarked new k
  pub marked : ComesBack hops place → IsMarked new place

-- unless the cost decreases along the hop, the router before it is marked if it is on a loop
abbrev pub IsMarkedBefore : List Hop → List ℕ → List Bool → Hop → Type 0
IsMarkedBefore hops costs marks hop =
    slice_index_or costs hop.from 0 ≤ slice_index_or costs hop.to 0
    → ComesBack hops hop.from → IsMarked marks hop.from

-- the same for one more hop
pub record MarksLoopsBefore (hops : List Hop) (costs : List ℕ) (hop : Hop) (old new : List Bool)
    : Type 0 where
  pub sound : GoesRoundOnly hops new
  pub whole : HoldsWholeLoops hops new
  pub kept : (k : Place) → IsMarked old k → IsMarked new k
  pub marked : IsMarkedBefore hops costs new hop

-- what holds after the given number of hops
pub record AreLoopsSoFar (hops : List Hop) (costs : List ℕ) (marks : List Bool) (count : ℕ)
    : Type 0 where
  pub sound : GoesRoundOnly hops marks
  pub whole : HoldsWholeLoops hops marks
  pub before : All (IsMarkedBefore hops costs marks) (take count hops)
