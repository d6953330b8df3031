-- What is requested stays so until an LSA of its key comes (RFC 2328, sections 10.6, 10.9, 13 and
-- 13.3): if no copy is held and the key isn't the router's own, what is accepted is requested, and
-- a request leaves its list in no event that brings no LSA of the key.
use Rattle.std.specs.Prelude.{◌≡◌, Some}
use Rattle.std.specs.FinMap as finite
use Rattle.words.specs.Numbers.{InterfaceNumber, Moment}
use Rattle.words.specs.declared.key.Key.{Key}
use Rattle.lsdb.specs.Headers.{Header, key_of}
use Rattle.lsdb.specs.Instances.{ListEntry}
use Rattle.packet.specs.declared.model.Description.{Description}
use Rattle.adjacency.specs.Adjacencies.{two_way_received}
use Rattle.adjacency.specs.Neighbors.{Neighbor}
use Rattle.received.specs.Links.{neighbor_at}
use Rattle.event_rules.specs.Routers.{Occurrence, Router}
use Rattle.agreement_laws.specs.EachEvent.{OfEachEvent}
use Rattle.agreement_laws.specs.CopiesClimb.{BringsNone, IsForeignAndAbsent}
use Rattle.agreement_laws.specs.Exchanged.{Converses, conversation_with}
use Rattle.agreement_laws.specs.Accepted.{AcceptsDescription, IsLastOfItsKey}
use Rattle.agreement_laws.specs.Requests.{AcceptsKey, IsRequested}

-- what becomes of such a request
pub data StaysRequested (old : Router) (moment : Moment) (event : Occurrence)
    (interface : InterfaceNumber) (n : Neighbor) (key : Key) (entry : ListEntry) (new : Router)
    : Type 0 where
  Stays : IsRequested interface (conversation_with n) key entry new
      → StaysRequested old moment event interface n key entry new
  -- another Description with a header of the key is accepted
  Again : AcceptsKey old moment event interface n.router key
      → StaysRequested old moment event interface n key entry new
  -- the conversation is over
  Over : (Converses interface (conversation_with n) new → ⊥)
      → StaysRequested old moment event interface n key entry new

pub record RequestsStay : Type 0 where
  -- each request
  pub stays : OfEachEvent (λ old moment event new. (interface : InterfaceNumber) (n : Neighbor)
      → neighbor_at interface old.area.links ≡ Some n
      → (key : Key) (entry : ListEntry) → finite.get n.requests key ≡ Some entry
      → IsForeignAndAbsent old key → BringsNone event key
      → StaysRequested old moment event interface n key entry new)
  -- each Description that is accepted
  pub accepted : OfEachEvent (λ old moment event new. (interface : InterfaceNumber) (n : Neighbor)
      (d : Description) → AcceptsDescription old moment event interface n d
      → (h : Header) → IsLastOfItsKey d.headers h → IsForeignAndAbsent old (key_of h)
      → IsRequested interface (conversation_with (two_way_received moment n).neighbor) (key_of h)
      (record { header = h; at = moment }) new)
