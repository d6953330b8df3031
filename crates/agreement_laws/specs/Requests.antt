-- What is requested (RFC 2328, section 10.6): each header of a Description that is accepted, unless
-- an instance that is as new is held. And what becomes of a request in an event (sections 10.9, 13
-- and 13.3): it leaves the request list only if one that is as new is held, if a Description is
-- accepted that has a header of its key, or with the conversation.
use Rattle.std.specs.Prelude.{◌≡◌, true, Some}
use Rattle.std.specs.FinMap as finite
use Rattle.std.specs.List.{Contains}
use Rattle.words.specs.Numbers.{InterfaceNumber, Moment, RouterNumber}
use Rattle.words.specs.declared.key.Key.{Key}
use Rattle.lsdb.specs.Headers.{Header, key_of}
use Rattle.lsdb.specs.Instances.{ListEntry, instance_of, listed_now}
use Rattle.lsdb.specs.declared.order.Instance.{Instance}
use Rattle.packet.specs.declared.model.Description.{Description}
use Rattle.adjacency.specs.Adjacencies.{two_way_received}
use Rattle.adjacency.specs.Neighbors.{Neighbor}
use Rattle.received.specs.Links.{neighbor_at}
use Rattle.event_rules.specs.Endings.{start_event}
use Rattle.event_rules.specs.Routers.{Occurrence, Router}
use Rattle.agreement_laws.specs.EachEvent.{OfEachEvent}
use Rattle.agreement_laws.specs.CopiesClimb.{BecameOf}
use Rattle.agreement_laws.specs.Exchanged.{Conversation, Converses, conversation_with}
use Rattle.agreement_laws.specs.Accepted.{AcceptsDescription, BringsDescription, IsLastOfItsKey}
use Rattle.agreement_laws.specs.Accepted.{accepts_description}

-- the entry stands on the request list of the neighbor at the interface, in this conversation
pub record IsRequested (interface : InterfaceNumber) (with_it : Conversation) (key : Key)
    (entry : ListEntry) (r : Router) : Type 0 where
  pub neighbor : Neighbor
  pub there : neighbor_at interface r.area.links ≡ Some neighbor
  pub is : conversation_with neighbor ≡ with_it
  pub asked : finite.get neighbor.requests key ≡ Some entry

-- after the event at the moment, in which the old router became the new one
pub data IsRequestedOrHeld (old : Router) (moment : Moment) (event : Occurrence)
    (interface : InterfaceNumber) (with_it : Conversation) (key : Key) (entry : ListEntry)
    (instance : Instance) (new : Router) : Type 0 where
  Requested : IsRequested interface with_it key entry new
      → IsRequestedOrHeld old moment event interface with_it key entry instance new
  -- one as new as the instance is held; or it was, and left in this event, at MaxAge
  Held : BecameOf old moment event instance key new
      → IsRequestedOrHeld old moment event interface with_it key entry instance new

-- ---- in an event

-- the router accepts a Description that has a header of the key, from this router
pub record AcceptsKey (old : Router) (moment : Moment) (event : Occurrence)
    (interface : InterfaceNumber) (router : RouterNumber) (key : Key) : Type 0 where
  pub d : Description
  pub brings : BringsDescription event interface router d
  -- the neighbor as it is once copies have come to MaxAge
  pub neighbor : Neighbor
  pub its : neighbor.router ≡ router
  pub there : neighbor_at interface (start_event moment old).router.area.links ≡ Some neighbor
  pub accepted : accepts_description old.id moment neighbor d ≡ true
  pub header : Header
  pub among : Contains d.headers header
  pub of_key : key_of header ≡ key

-- what becomes of an entry on the request list of this neighbor, which is at the interface before
-- the event
pub data BecameOfRequest (old : Router) (moment : Moment) (event : Occurrence)
    (interface : InterfaceNumber) (n : Neighbor) (key : Key) (entry : ListEntry) (new : Router)
    : Type 0 where
  -- it is still requested, or met
  Stays : IsRequestedOrHeld old moment event interface (conversation_with n) key entry
      (listed_now moment entry) new
      → BecameOfRequest old moment event interface n key entry new
  -- another Description with a header of the key is accepted, and so that one may have taken its
  -- place
  Again : AcceptsKey old moment event interface n.router key
      → BecameOfRequest old moment event interface n key entry new
  -- the conversation is over
  Over : (Converses interface (conversation_with n) new → ⊥)
      → BecameOfRequest old moment event interface n key entry new

-- each request
abbrev pub RequestsAreMet : Type 0
RequestsAreMet = OfEachEvent (λ old moment event new. (interface : InterfaceNumber) (n : Neighbor)
    → neighbor_at interface old.area.links ≡ Some n
    → (key : Key) (entry : ListEntry) → finite.get n.requests key ≡ Some entry
    → BecameOfRequest old moment event interface n key entry new)

-- each Description that is accepted
abbrev pub WhatIsAcceptedIsRequested : Type 0
WhatIsAcceptedIsRequested = OfEachEvent (λ old moment event new. (interface : InterfaceNumber)
    (n : Neighbor) (d : Description) → AcceptsDescription old moment event interface n d
    → (h : Header) → IsLastOfItsKey d.headers h
    → IsRequestedOrHeld old moment event interface
    (conversation_with (two_way_received moment n).neighbor)
    (key_of h) (record { header = h; at = moment }) (instance_of h) new)
