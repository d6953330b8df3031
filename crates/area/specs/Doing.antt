-- What a call does in an event to a neighbor that may be Down, to a link, to several links, and to
-- links and database (to the database alone: `DatabaseDoes` of `lsdb`).
--
-- It errors only if an allocation is refused, and may have done a part of its work then: the caller
-- rolls the router back, which drops what was drafted, too. Whatever it answers, what was committed
-- stays the same.
use Rattle.std.specs.Prelude.{◌≡◌, ℕ, List, map, Option, OnOk, Result}
use Rattle.adjacency.specs.Contents.{Content, Step, sent_on, step_on}
use Rattle.adjacency.specs.Drafts.{Drafted, drafting}
use Rattle.adjacency.specs.Kept.{Kept}
use Rattle.adjacency.specs.Neighbors.{Neighbor}
use Rattle.adjacency.specs.Doing.{Sends, SendsUpdates}
use Rattle.received.specs.Links.{Area, Link}
use Rattle.received.specs.AreaStates.{AreaState, Send}
use Rattle.area.specs.Drafted.{drafts_with}
use Rattle.area.specs.Kept.{KeptLink, RouterArea}
use Rattle.area.specs.Links.{committed_link, draft_of, present}

-- the neighbor, if there is one, takes the step
abbrev pub SlotSends : {X E : Type 0} → (Neighbor → Step) → Kept (Option Neighbor)
    → Kept (Option Neighbor) → Drafted → Drafted → Result X E → Type 0
SlotSends f old new before drafted result =
    Sends (step_on f) (sent_on f) old new before drafted result

abbrev pub SlotUpdates : {X E : Type 0} → ℕ → (Neighbor → Step) → Kept (Option Neighbor)
    → Kept (Option Neighbor) → Drafted → Drafted → Result X E → Type 0
SlotUpdates delay f old new before drafted result =
    SendsUpdates delay (step_on f) (sent_on f) old new before drafted result

-- the link becomes what `after` says, and what it sends is drafted for its interface
pub record LinkDoes {X E : Type 0} (after : Link → Link) (sends : Link → List Content)
    (old new : KeptLink) (result : Result X E) : Type 0 where
  pub link : OnOk result (new.present ≡ after old.present)
  pub draft : OnOk result (new.drafted
      ≡ drafting old.present.interface.delay (sends old.present) old.drafted)
  pub committed : new.committed ≡ old.committed

-- the links become what `after` says, and what is sent on each is drafted for its interface
pub record LinksDo {X E : Type 0} (after : List Link → List Link) (sends : List Link → List Send)
    (old new : List KeptLink) (result : Result X E) : Type 0 where
  pub links : OnOk result (map present new ≡ after (map present old))
  pub drafts : OnOk result (map draft_of new
      ≡ drafts_with (sends (map present old)) (map present old) (map draft_of old))
  pub committed : map committed_link new ≡ map committed_link old

-- links and database become what `f` says of the area, and what that sends is drafted
pub record AreaDoes {X E : Type 0} (f : Area → AreaState) (old new : RouterArea)
    (result : Result X E) : Type 0 where
  pub area : OnOk result (new.present ≡ (f old.present).area)
  pub drafts : OnOk result (new.drafted
      ≡ drafts_with (f old.present).sends old.present.links old.drafted)
  pub committed : new.committed ≡ old.committed
  pub router : new.router ≡ old.router
