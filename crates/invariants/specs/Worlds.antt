-- Routers joined by links: their packets may be lost, repeated, reordered and late, and routers may
-- restart, but nothing is forged. If an acknowledgment removes an instance from a retransmission
-- list, the neighbor had received or originated it.
use Rattle.std.specs.Prelude.{◌≡◌, ℕ, ◌==◌, Bool, true, not, ◌&&◌, List, [], ◌∷◌, ◌++◌, map, Option}
use Rattle.std.specs.Prelude.{None, Some, slice_get, slice_set}
use Rattle.std.specs.List.{Contains, flat_map, list_all, list_any}
use Rattle.std.specs.FinMap as finite
use Rattle.words.specs.Numbers.{InterfaceNumber, RouterNumber}
use Rattle.lsdb.specs.Instances.{ListEntry}
use Rattle.packet.specs.declared.model.Packet.{Packet}
use Rattle.packet.specs.Text.{PacketText}
use Rattle.adjacency.specs.Neighbors.{Neighbor}
use Rattle.received.specs.Links.{Link}
use Rattle.event_rules.specs.declared.model.Config.{Config}
use Rattle.event_rules.specs.declared.model.Out.{Out}
use Rattle.event_rules.specs.Events.{initial}
use Rattle.event_rules.specs.InstanceIdentities.{InstanceIdentity, identity_of_lsa}
use Rattle.event_rules.specs.InstanceIdentities.{identity_of_header}
use Rattle.event_rules.specs.InstanceIdentities.{instances_received, instances_advertised}
use Rattle.event_rules.specs.Routers.{Occurrence, Router, in_profile}
use Rattle.invariants.specs.NewInstances.{IsNewInstance}
use Rattle.invariants.specs.TakenOff.{IsTakenOff, IsTold, TakesOffWhatIsTold}

-- ---- what a router holds

abbrev pub instances_on_list : Option Neighbor → List InstanceIdentity
instances_on_list None = []
instances_on_list (Some n) =
    map (λ (l : ListEntry). identity_of_header l.header) (finite.values n.retransmissions)

abbrev pub instances_on_link : Link → List InstanceIdentity
instances_on_link link =
    instances_on_list link.neighbor ++ map identity_of_header (finite.values link.acknowledgments)

-- in its database, on its retransmission lists and among its delayed acknowledgments
abbrev pub instances_stored : Router → List InstanceIdentity
instances_stored r =
    map (λ c. identity_of_lsa c.lsa) (finite.values r.area.database)
    ++ flat_map instances_on_link r.area.links

-- ---- what a router's step keeps

-- the instance was held before, was received in the event's Link State Update, or is one of the
-- router's own that it originates
pub data IsKnown (old : Router) (event : Occurrence) (originated : List InstanceIdentity)
    (name : InstanceIdentity) : Type 0 where
  Held : Contains (instances_stored old) name → IsKnown old event originated name
  Brought : (interface : ℕ) (bytes : List ℕ) (packet : Packet)
      → event ≡ Occurrence.Packet interface bytes → PacketText bytes packet
      → Contains (instances_received packet.body) name → IsKnown old event originated name
  Originated : Contains originated name → IsKnown old event originated name

-- the packet is from the router itself, and each instance in it is known
pub record IsLawfulOut (old : Router) (event : Occurrence) (originated : List InstanceIdentity)
    (out : Out) : Type 0 where
  pub packet : Packet
  pub text : PacketText out.bytes packet
  pub own : packet.router ≡ old.id
  pub known : (name : InstanceIdentity) → Contains (instances_advertised packet.body) name
      → IsKnown old event originated name

-- all properties of a router's step that acknowledgments rely on
pub record Keeps (old : Router) (moment : ℕ) (event : Occurrence) (outs : List Out) (new : Router)
    (originated : List InstanceIdentity) : Type 0 where
  pub same_router : new.id ≡ old.id
  -- the originated instances are new instances of the router's own LSAs
  pub is_new : (name : InstanceIdentity) → Contains originated name
      → IsNewInstance old moment event new name
  pub held : (name : InstanceIdentity) → Contains (instances_stored new) name
      → IsKnown old event originated name
  pub sent : (out : Out) → Contains outs out → IsLawfulOut old event originated out
  -- if an instance is removed from a retransmission list as acknowledged, the event's packet from
  -- that neighbor says so
  pub taken : TakesOffWhatIsTold old moment event new

-- ---- the world

-- an interface of a router, by the router's index
pub record End : Type 0 where
  pub router : ℕ
  pub interface : ℕ

pub record Datagram : Type 0 where
  pub from : End
  pub bytes : List ℕ

-- the router with this Router ID has received or originated the instance
pub record Knowledge : Type 0 where
  pub router : ℕ
  pub name : InstanceIdentity

-- the routers, all packets that were ever sent, and all instances that were ever received or
-- originated, before and after restarts
pub record World : Type 0 where
  pub routers : List Router
  pub sent : List Datagram
  pub known : List Knowledge

-- the other end of a link
abbrev pub Joins : Type 0
Joins = End → Option End

-- what the router at this index sends
abbrev pub sent_from : (place : ℕ) → Out → Datagram
sent_from place o = record {
  from = record { router = place; interface = o.interface };
  bytes = o.bytes;
}

abbrev pub knows : RouterNumber → InstanceIdentity → Knowledge
knows router name = record { router = router; name = name }

abbrev pub known_as : RouterNumber → List InstanceIdentity → List Knowledge
known_as router names = map (knows router) names

-- the instances that a router receives in an event
abbrev pub Brings : Occurrence → List InstanceIdentity → Type 0
Brings (Occurrence.Packet interface bytes) names =
    (packet : Packet) × PacketText bytes packet × (names ≡ instances_received packet.body)
Brings Occurrence.Tick names = names ≡ []
Brings (Occurrence.Redistribute tagged tag priced price) names = names ≡ []
Brings (Occurrence.Withdraw prefix) names = names ≡ []
Brings (Occurrence.Install answers) names = names ≡ []
Brings (Occurrence.LinkDown interface) names = names ≡ []

-- to the router at this index: the bytes of a packet were sent at the other end of the link at some
-- time; all else may happen at any time
abbrev pub MayHappen : Joins → World → (place : ℕ) → Occurrence → Type 0
MayHappen joins w place (Occurrence.Packet interface bytes) =
    (d : Datagram) × Contains w.sent d
    × (joins (record { router = place; interface = interface }) ≡ Some d.from) × (bytes ≡ d.bytes)
MayHappen joins w place Occurrence.Tick = Unit {0}
MayHappen joins w place (Occurrence.Redistribute tagged tag priced price) = Unit {0}
MayHappen joins w place (Occurrence.Withdraw prefix) = Unit {0}
MayHappen joins w place (Occurrence.Install answers) = Unit {0}
MayHappen joins w place (Occurrence.LinkDown interface) = Unit {0}

-- a step of the router at this index at an event, of which `Keeps` is so; that the step is what the
-- rules make of the event isn't said
pub record Lives (joins : Joins) (before : World) (place moment : ℕ) (event : Occurrence)
    (after : World) : Type 0 where
  pub old : Router
  pub here : slice_get before.routers place ≡ Some old
  pub may : MayHappen joins before place event
  pub outs : List Out
  pub new : Router
  pub brought : List InstanceIdentity
  pub brings : Brings event brought
  pub originated : List InstanceIdentity
  pub keeps : Keeps old moment event outs new originated
  pub is : after ≡ record {
    routers = slice_set before.routers place new;
    sent = before.sent ++ map (sent_from place) outs;
    known = before.known ++ known_as old.id (brought ++ originated);
  }

-- the router at this index restarts with its Router ID
pub record Restarts (before : World) (place : ℕ) (after : World) : Type 0 where
  pub old : Router
  pub here : slice_get before.routers place ≡ Some old
  pub config : Config
  pub lawful : in_profile config ≡ true
  pub same : config.router ≡ old.id
  pub is : after ≡ record before {
    routers = slice_set before.routers place (initial config);
    known = before.known ++ known_as (initial config).id (instances_stored (initial config));
  }

pub data WorldStep (joins : Joins) (before after : World) : Type 0 where
  Life : (place moment : ℕ) (event : Occurrence) → Lives joins before place moment event after
      → WorldStep joins before after
  Restart : (place : ℕ) → Restarts before place after → WorldStep joins before after

-- each step is from the world after the one before it
abbrev pub IsHistory : Joins → World → List World → World → Type 0
IsHistory joins w [] last = w ≡ last
IsHistory joins w (next ∷ rest) last = WorldStep joins w next × IsHistory joins next rest last

-- no two have the same Router ID
abbrev pub have_names_apart : List Config → Bool
have_names_apart [] = true
have_names_apart (c ∷ others) =
    not (list_any (λ (d : Config). d.router == c.router) others) && have_names_apart others

abbrev pub all_known : List Router → List Knowledge
all_known routers = flat_map (λ (r : Router). known_as r.id (instances_stored r)) routers

abbrev pub begun_with : List Config → World
begun_with configs = record {
  routers = map initial configs;
  sent = [];
  known = all_known (map initial configs);
}

-- Whatever packets are lost, repeated, reordered or late, and whichever routers restart, at each
-- step of a router:
pub record AcknowledgedWasReceived : Type 0 where
  -- the sender of a received Link State Acknowledgment or Update had received or originated each
  -- instance in it
  pub told : (joins : Joins) (configs : List Config) (steps : List World) (w after : World)
      → have_names_apart configs ≡ true → list_all in_profile configs ≡ true
      → IsHistory joins (begun_with configs) steps w
      → (place moment : ℕ) (event : Occurrence) → Lives joins w place moment event after
      → (interface : InterfaceNumber) (router : RouterNumber) (name : InstanceIdentity)
      → IsTold event interface router name → Contains w.known (knows router name)
  -- if an entry is removed from a neighbor's retransmission list, and neither is the adjacency
  -- given up nor the LSA flooded, that neighbor had received or originated the instance
  pub left : (joins : Joins) (configs : List Config) (steps : List World) (w after : World)
      → have_names_apart configs ≡ true → list_all in_profile configs ≡ true
      → IsHistory joins (begun_with configs) steps w
      → (place moment : ℕ) (event : Occurrence) (lives : Lives joins w place moment event after)
      → (interface : InterfaceNumber) (n : Neighbor) (name : InstanceIdentity)
      → IsTakenOff lives.old moment event lives.new interface n name
      → Contains w.known (knows n.router name)
