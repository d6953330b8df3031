-- What a call does in an event to a neighbor, to what it drafts for it, and to a list.
--
-- It errors only if an allocation is refused, and may have done a part of its work then: the caller
-- rolls back, which drops what was drafted, too. Whatever it answers, what was committed stays the
-- same.
use Rattle.std.specs.Prelude.{◌≡◌, ℕ, List, OnOk, Result}
use Rattle.keyed_map.specs.Held.{Held}
use Rattle.keyed_map.specs.Keys.{ByKey}
use Rattle.adjacency.specs.Contents.{Content, Step}
use Rattle.adjacency.specs.Drafts.{Drafted, drafting}
use Rattle.adjacency.specs.Kept.{Kept}
use Rattle.adjacency.specs.Neighbors.{Neighbor}

-- the value becomes what `after` says
pub record NeighborDoes {A X E : Type 0} (after : A → A) (old new : Kept A) (result : Result X E) :
    Type 0
  where
    pub ok : OnOk result (new.present ≡ after old.present)
    pub committed : new.committed ≡ old.committed

-- a list becomes what `after` says
pub record ListDoes {A X E : Type 0} (after : ByKey A → ByKey A) (old new : Held A)
    (result : Result X E) : Type 0 where
  pub ok : OnOk result (new.present ≡ after old.present)
  pub committed : new.committed ≡ old.committed

-- the value becomes what `after` says, and what it sends is drafted: no Link State Update, so
-- InfTransDelay doesn't matter
pub record Sends {A X E : Type 0} (after : A → A) (sends : A → List Content) (old new : Kept A)
    (before drafted : Drafted) (result : Result X E) : Type 0 where
  pub ok : OnOk result (new.present ≡ after old.present)
  pub draft : OnOk result ((delay : ℕ) → drafted ≡ drafting delay (sends old.present) before)
  pub committed : new.committed ≡ old.committed

-- the same with Link State Updates, whose ages are incremented by InfTransDelay (`delay`) seconds
pub record SendsUpdates {A X E : Type 0} (delay : ℕ) (after : A → A) (sends : A → List Content)
    (old new : Kept A) (before drafted : Drafted) (result : Result X E) : Type 0 where
  pub ok : OnOk result (new.present ≡ after old.present)
  pub draft : OnOk result (drafted ≡ drafting delay (sends old.present) before)
  pub committed : new.committed ≡ old.committed

abbrev pub after_step : (Neighbor → Step) → Neighbor → Neighbor
after_step f n = (f n).neighbor

abbrev pub sent_in_step : (Neighbor → Step) → Neighbor → List Content
sent_in_step f n = (f n).sends

-- the neighbor takes the step
abbrev pub NeighborSends : {X E : Type 0} → (Neighbor → Step) → Kept Neighbor → Kept Neighbor
    → Drafted → Drafted → Result X E → Type 0
NeighborSends f old new before drafted result =
    Sends (after_step f) (sent_in_step f) old new before drafted result

abbrev pub NeighborUpdates : {X E : Type 0} → ℕ → (Neighbor → Step) → Kept Neighbor
    → Kept Neighbor → Drafted → Drafted → Result X E → Type 0
NeighborUpdates delay f old new before drafted result =
    SendsUpdates delay (after_step f) (sent_in_step f) old new before drafted result
