-- What happens to a copy in an event (RFC 2328, sections 12.1.6, 13 and 14): it is replaced by one
-- that is at least as new, or it is removed from the database at MaxAge, when it is on no
-- retransmission list. So a router has what it has said about a key until it loses its copy.
use Rattle.std.specs.Prelude.{◌≡◌, true, false, None, Some}
use Rattle.std.specs.FinMap as finite
use Rattle.words.specs.Numbers.{Moment}
use Rattle.words.specs.declared.key.Key.{Key}
use Rattle.lsdb.specs.Copies.{DatabaseCopy, copy_now}
use Rattle.lsdb.specs.Headers.{Lsa, lsa_key}
use Rattle.lsdb.specs.Order.{is_max_age}
use Rattle.lsdb.specs.declared.order.Instance.{Instance}
use Rattle.received.specs.Links.{any_has_retransmission}
use Rattle.event_rules.specs.Routers.{Occurrence, Router}
use Rattle.invariants.specs.NewInstances.{BringsLsa}
use Rattle.agreement_laws.specs.EachEvent.{OfEachEvent}
use Rattle.agreement_laws.specs.Ranks.{is_at_least}

-- ---- keys of which nothing can leave

-- no copy is held, and the router originates none
pub record IsForeignAndAbsent (r : Router) (key : Key) : Type 0 where
  pub absent : finite.get r.area.database key ≡ None
  pub others : key.advertising_router ≡ r.id → ⊥

-- the event's Link State Update has no LSA of the key
abbrev pub BringsNone : Occurrence → Key → Type 0
BringsNone event key = (lsa : Lsa) → BringsLsa event lsa → lsa_key lsa ≡ key → ⊥

-- ---- what becomes of a copy

-- the LSA is of the instance, whatever their ages
pub record IsOfInstance (lsa : Lsa) (instance : Instance) : Type 0 where
  pub sequence : lsa.header.sequence ≡ instance.sequence
  pub checksum : lsa.header.checksum ≡ instance.checksum

-- why the router has had an instance of the key, at some age, by the end of an event
pub data HasHad (old : Router) (event : Occurrence) (key : Key) (instance : Instance)
    : Type 0 where
  -- it held it before the event
  Before : (copy : DatabaseCopy) → finite.get old.area.database key ≡ Some copy
      → IsOfInstance copy.lsa instance → HasHad old event key instance
  -- the event's Link State Update has it
  Brought : (lsa : Lsa) → BringsLsa event lsa → lsa_key lsa ≡ key
      → IsOfInstance lsa instance → HasHad old event key instance
  -- the key is the router's own, so that it may have originated it
  Own : key.advertising_router ≡ old.id → HasHad old event key instance

-- after an event at the moment, with the router `new` as the result
pub data BecameOf (old : Router) (moment : Moment) (event : Occurrence) (instance : Instance)
    (key : Key) (new : Router) : Type 0 where
  -- it holds an instance that is at least as new
  IsHeld : (copy : DatabaseCopy) → finite.get new.area.database key ≡ Some copy
      → is_at_least (copy_now moment copy) instance ≡ true
      → BecameOf old moment event instance key new
  -- it holds none: the last one that it had was at least as new, at MaxAge, and is on no
  -- retransmission list
  IsGone : (last : Instance) → HasHad old event key last → is_at_least last instance ≡ true
      → is_max_age last.age ≡ true → finite.get new.area.database key ≡ None
      → any_has_retransmission key new.area.links ≡ false
      → BecameOf old moment event instance key new

-- each copy, compared at the event's moment
abbrev pub CopiesClimb : Type 0
CopiesClimb = OfEachEvent (λ old moment event new. (key : Key) (copy : DatabaseCopy)
    → finite.get old.area.database key ≡ Some copy
    → BecameOf old moment event (copy_now moment copy) key new)
