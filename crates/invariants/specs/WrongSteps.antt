-- Wrong steps, which the properties of a router's step exclude: an acknowledgment of an older
-- instance, or of any other than the one on the list, removes the entry (RFC 2328, section 13.7).
use Rattle.std.specs.Prelude.{◌≡◌, ℕ, true, false, List, map, Option, None, Some}
use Rattle.std.specs.FinMap as finite
use Rattle.std.specs.List.{Contains}
use Rattle.words.specs.Numbers.{InterfaceNumber, Moment}
use Rattle.words.specs.declared.key.Key.{Key}
use Rattle.lsdb.specs.Headers.{Header}
use Rattle.packet.specs.declared.model.PacketBody.TheVariants as body
use Rattle.packet.specs.Text.{PacketText}
use Rattle.adjacency.specs.Neighbors.{Neighbor, is_exchange_or_later}
use Rattle.adjacency.specs.Retransmissions.{remove_retransmission}
use Rattle.received.specs.Links.{Link, change_link, neighbor_at}
use Rattle.event_rules.specs.declared.model.Out.{Out}
use Rattle.event_rules.specs.InstanceIdentities.{InstanceIdentity, identity_of_header}
use Rattle.event_rules.specs.Routers.{Occurrence, Router}
use Rattle.invariants.specs.TakenOff.{IsTakenOff, comes_to_max_age, owed_instance}
use Rattle.invariants.specs.Worlds.{Keeps}

-- the key is removed from the retransmission list of the neighbor at this interface, and nothing
-- else changes
abbrev pub remove_retransmission_in : Key → Option Neighbor → Option Neighbor
remove_retransmission_in key None = None
remove_retransmission_in key (Some n) = Some (remove_retransmission key n)

abbrev pub release_on : Key → Link → Link
release_on key link = record link { neighbor = remove_retransmission_in key link.neighbor }

abbrev pub without_entry : InterfaceNumber → Key → Router → Router
without_entry interface key r =
    record r {
      area = record r.area { links = change_link interface (release_on key) r.area.links };
    }

-- these bytes are a Link State Acknowledgment from the neighbor that doesn't identify the instance
pub record AcknowledgesAnother (n : Neighbor) (name : InstanceIdentity) (bytes : List ℕ)
    (headers : List Header) : Type 0 where
  pub text : PacketText bytes
      (record { router = n.router; body = body.Acknowledgment headers })
  pub another : Contains (map identity_of_header headers) name → ⊥

-- a neighbor in Exchange or later has the instance on its retransmission list; and the copy of its
-- LSA, if it stays, doesn't come to MaxAge in an event at this moment
pub record IsOwed (old : Router) (moment : Moment) (interface : InterfaceNumber) (n : Neighbor)
    (name : InstanceIdentity) : Type 0 where
  pub there : neighbor_at interface old.area.links ≡ Some n
  pub part : is_exchange_or_later n.state ≡ true
  pub owed : owed_instance n name.key ≡ Some name
  pub young : comes_to_max_age old.moment moment (finite.get old.area.database name.key)
      (finite.get old.area.database name.key) ≡ false

pub record AnotherAcknowledgmentTakesNothingOff : Type 0 where
  -- no step at such a packet in which the instance is taken off, whatever else it does and sends,
  -- has the properties of a router's step
  pub never : (old new : Router) (moment : Moment) (interface : InterfaceNumber) (n : Neighbor)
      (name : InstanceIdentity) (bytes : List ℕ) (headers : List Header)
      → AcknowledgesAnother n name bytes headers
      → IsTakenOff old moment (Occurrence.Packet interface bytes) new interface n name
      → (outs : List Out) (originated : List InstanceIdentity)
      → Keeps old moment (Occurrence.Packet interface bytes) outs new originated → ⊥
  -- such a step is the one that removes the entry and changes nothing else, not even the moment
  pub one : (old : Router) (moment : Moment) (interface : InterfaceNumber) (n : Neighbor)
      (name : InstanceIdentity) (bytes : List ℕ) (headers : List Header)
      → AcknowledgesAnother n name bytes headers → IsOwed old moment interface n name
      → IsTakenOff old moment (Occurrence.Packet interface bytes)
      (without_entry interface name.key old) interface n name
