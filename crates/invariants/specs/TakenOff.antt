-- Which entries are removed from a retransmission list as acknowledged (RFC 2328, sections 13, step
-- 7a, and 13.7), in terms of the router before an event and after it, and of the event's packet.
use Rattle.std.specs.Prelude.{◌≡◌, ℕ, ◌==◌, Bool, true, false, not, if◌then◌else◌, List, map}
use Rattle.std.specs.Prelude.{Option, None, Some}
use Rattle.std.specs.FinMap as finite
use Rattle.std.specs.List.{Contains}
use Rattle.words.specs.Numbers.{InterfaceNumber, Moment, RouterNumber}
use Rattle.words.specs.declared.key.Key.{Key}
use Rattle.lsdb.specs.Copies.{DatabaseCopy, received_just_now, is_aged_out, newer_than_copy}
use Rattle.lsdb.specs.Headers.{Lsa, key_of, lsa_key}
use Rattle.lsdb.specs.Instances.{ListEntry}
use Rattle.packet.specs.declared.model.PacketBody.TheVariants as body
use Rattle.packet.specs.declared.model.Description.{Description}
use Rattle.packet.specs.declared.model.Packet.{Packet}
use Rattle.packet.specs.Text.{PacketText}
use Rattle.adjacency.specs.Neighbors.{Neighbor, is_exchange_or_later}
use Rattle.received.specs.Links.{neighbor_at}
use Rattle.event_rules.specs.InstanceIdentities.{InstanceIdentity, instances_advertised}
use Rattle.event_rules.specs.Routers.{Occurrence, Router}
use Rattle.invariants.specs.NewInstances.{BringsLsa, Originates}

-- ---- an adjacency that isn't given up

-- in Exchange or later before the event and after it, with the same router: nothing has cleared the
-- lists
pub record StaysAdjacent (old new : Router) (interface : InterfaceNumber) (before after : Neighbor)
    : Type 0 where
  pub was : neighbor_at interface old.area.links ≡ Some before
  pub is : neighbor_at interface new.area.links ≡ Some after
  pub same_router : after.router ≡ before.router
  pub from : is_exchange_or_later before.state ≡ true
  pub on : is_exchange_or_later after.state ≡ true

-- the instance of a list entry with this key
abbrev pub listed_instance : Key → Option ListEntry → Option InstanceIdentity
listed_instance key None = None
listed_instance key (Some l) =
    Some (record { key = key; sequence = l.header.sequence; checksum = l.header.checksum })

-- the instance of this key on the neighbor's retransmission list
abbrev pub owed_instance : Neighbor → Key → Option InstanceIdentity
owed_instance n key = listed_instance key (finite.get n.retransmissions key)

-- ---- what flooding does to entries

-- the event's Link State Update has an LSA of the key that is newer than the copy, which flooding
-- didn't install in the same second
pub record BringsNewer (old : Router) (moment : Moment) (event : Occurrence) (key : Key)
    : Type 0 where
  pub lsa : Lsa
  pub brought : BringsLsa event lsa
  pub of_key : lsa_key lsa ≡ key
  pub newer : newer_than_copy moment lsa.header (finite.get old.area.database key) ≡ true
  pub in_time : received_just_now moment (finite.get old.area.database key) ≡ false

-- the copy was stored at this moment, unless it was removed from the database since
abbrev pub is_gone_or_stored : Moment → Option DatabaseCopy → Bool
is_gone_or_stored moment None = true
is_gone_or_stored moment (Some c) = c.stored == moment

-- the copy was removed from the database, or has MaxAge
abbrev pub is_gone_or_aged : Moment → Option DatabaseCopy → Bool
is_gone_or_aged moment None = true
is_gone_or_aged moment (Some c) = is_aged_out moment c

-- the copy has reached MaxAge since the moment `before`, or was younger and is flushed
abbrev pub comes_to_max_age : (before : Moment) → (moment : Moment)
    → (was : Option DatabaseCopy) → (is : Option DatabaseCopy) → Bool
comes_to_max_age before moment None is = false
comes_to_max_age before moment (Some c) is =
    if is_aged_out moment c then not (is_aged_out before c) else is_gone_or_aged moment is

-- the LSA is on the neighbor's request list, or the neighbor describes it in this event
pub data IsAsked (event : Occurrence) (interface : InterfaceNumber) (before : Neighbor) (key : Key)
    : Type 0 where
  Before : finite.contains_key before.requests key ≡ true → IsAsked event interface before key
  Now : (bytes : List ℕ) (packet : Packet) (d : Description)
      → event ≡ Occurrence.Packet interface bytes → PacketText bytes packet
      → packet.body ≡ body.Description d → Contains (map key_of d.headers) key
      → IsAsked event interface before key

-- How flooding in this event may remove the entry, or replace it by another instance's: a newer
-- instance was received, or originated, and stored; or the copy reached MaxAge, and a newer
-- instance may be requested of the neighbor, which then isn't sent this one.
pub data MayLeaveByFlooding (old : Router) (moment : Moment) (event : Occurrence) (new : Router)
    (interface : InterfaceNumber) (before : Neighbor) (key : Key) : Type 0 where
  Newer : BringsNewer old moment event key
      → is_gone_or_stored moment (finite.get new.area.database key) ≡ true
      → MayLeaveByFlooding old moment event new interface before key
  Originated : Originates old moment new key
      → is_gone_or_stored moment (finite.get new.area.database key) ≡ true
      → MayLeaveByFlooding old moment event new interface before key
  Aged : comes_to_max_age old.moment moment (finite.get old.area.database key)
      (finite.get new.area.database key) ≡ true
      → IsAsked event interface before key
      → MayLeaveByFlooding old moment event new interface before key

-- ---- what is removed as acknowledged

-- the instance was on the retransmission list of the neighbor at this interface and no longer is,
-- although the adjacency wasn't given up, and no flooding accounts for it
pub record IsTakenOff (old : Router) (moment : Moment) (event : Occurrence) (new : Router)
    (interface : InterfaceNumber) (before : Neighbor) (name : InstanceIdentity) : Type 0 where
  pub after : Neighbor
  pub adjacent : StaysAdjacent old new interface before after
  pub stood : owed_instance before name.key ≡ Some name
  pub left : owed_instance after name.key ≡ Some name → ⊥
  pub not_by_flooding : MayLeaveByFlooding old moment event new interface before name.key → ⊥

-- the event's packet was received at this interface from this router, and has the instance: it is a
-- Link State Acknowledgment that identifies it, or a Link State Update that contains it
pub record IsTold (event : Occurrence) (interface : InterfaceNumber) (router : RouterNumber)
    (name : InstanceIdentity) : Type 0 where
  pub bytes : List ℕ
  pub packet : Packet
  pub is : event ≡ Occurrence.Packet interface bytes
  pub text : PacketText bytes packet
  pub from : packet.router ≡ router
  pub told : Contains (instances_advertised packet.body) name

-- what a step removes as acknowledged, the neighbor's packet has
abbrev pub TakesOffWhatIsTold : Router → Moment → Occurrence → Router → Type 0
TakesOffWhatIsTold old moment event new =
    (interface : InterfaceNumber) (before : Neighbor) (name : InstanceIdentity)
    → IsTakenOff old moment event new interface before name
    → IsTold event interface before.router name
