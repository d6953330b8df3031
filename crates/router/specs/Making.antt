-- An event in progress, and what a call that is a part of it does to the router.
--
-- A call errors only if an allocation is refused, and may have done a part of its work then: the
-- caller rolls the router back, which drops what was drafted, too. Whatever it answers, what was
-- committed stays the same.
use Rattle.std.specs.Prelude.{◌≡◌, List, OnOk, Result}
use Rattle.adjacency.specs.Drafts.{Drafted}
use Rattle.area.specs.Drafted.{drafts_with}
use Rattle.event_rules.specs.EventState.{EventState}
pub use Rattle.router.specs.Described.{interfaces as interfaces_of}
use Rattle.router.specs.Kept.{KeptRouter}

-- the router is that of the event so far, and its drafts, which began as `first`, have what was
-- sent
pub record IsMaking (p : EventState) (first : List Drafted) (r : KeptRouter) : Type 0 where
  pub router : r.present ≡ p.router
  pub drafts : r.drafted ≡ drafts_with p.sends p.router.area.links first

-- the function f, as a part of any event, leads from the old router to the new one
pub record Makes (f : EventState → EventState) (old new : KeptRouter) : Type 0 where
  pub committed : new.committed ≡ old.committed
  pub interfaces : interfaces_of new.present.area.links ≡ interfaces_of old.present.area.links
  pub part : (p : EventState) (first : List Drafted) → IsMaking p first old
      → IsMaking (f p) first new

-- a call that may be refused an allocation does this part of an event
pub record RouterDoes {X E : Type 0} (f : EventState → EventState) (old new : KeptRouter)
    (result : Result X E) : Type 0 where
  pub committed : new.committed ≡ old.committed
  pub makes : OnOk result (Makes f old new)
