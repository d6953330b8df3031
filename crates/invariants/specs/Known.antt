-- What a router holds after an event and what it sends: instances that were held before, were
-- received in the event's Link State Update, or are new instances of its own LSAs.
use Rattle.std.specs.Prelude.{◌≡◌, ℕ, List, [], ◌∷◌, map}
use Rattle.std.specs.List.{AllByRecursion, Contains, flat_map}
use Rattle.words.specs.Numbers.{Moment}
use Rattle.lsa.specs.Headers.{IsHeader}
use Rattle.lsa.specs.Text.{text}
use Rattle.lsdb.specs.Headers.{Lsa}
use Rattle.packet.specs.declared.model.PacketBody.{PacketBody}
use Rattle.packet.specs.declared.model.PacketBody.TheVariants as packets
use Rattle.adjacency.specs.Contents.{Content}
use Rattle.received.specs.AreaStates.{Send}
use Rattle.event_rules.specs.declared.model.Out.{Out}
use Rattle.event_rules.specs.Events.{Happens}
use Rattle.event_rules.specs.InstanceIdentities.{InstanceIdentity, identity_of_lsa}
use Rattle.event_rules.specs.InstanceIdentities.{identity_of_header}
use Rattle.event_rules.specs.InstanceIdentities.{instances_in_update}
use Rattle.event_rules.specs.Packing.{out_of}
use Rattle.event_rules.specs.Routers.{Occurrence, Router}
use Rattle.invariants.specs.InOrder.{IsConsistent}
use Rattle.invariants.specs.NewInstances.{IsNewInstance}
use Rattle.invariants.specs.Worlds.{IsKnown, instances_stored}

-- the instances that a Link State Update or Acknowledgment will contain
abbrev pub instances_in_content : Content → List InstanceIdentity
instances_in_content (Content.SendsHello hello) = []
instances_in_content (Content.Describes d) = []
instances_in_content (Content.Requests keys) = []
instances_in_content (Content.Updates lsa) = identity_of_lsa lsa ∷ []
instances_in_content (Content.Acknowledges header) = identity_of_header header ∷ []

abbrev pub instances_in_send : Send → List InstanceIdentity
instances_in_send s = instances_in_content s.content

abbrev pub instances_in_sends : List Send → List InstanceIdentity
instances_in_sends sends = flat_map instances_in_send sends

-- the bytes of an LSA whose instance K holds of
pub record IsTextOf (K : InstanceIdentity → Type 0) (bytes : List ℕ) : Type 0 where
  pub lsa : Lsa
  pub is : bytes ≡ text lsa
  pub known : K (identity_of_lsa lsa)

-- the contents of a Link State Update or Acknowledgment
abbrev pub Bears : (InstanceIdentity → Type 0) → PacketBody → Type 0
Bears K (packets.Hello h) = Unit {0}
Bears K (packets.Description d) = Unit {0}
Bears K (packets.Request keys) = Unit {0}
Bears K (packets.Update lsas) = AllByRecursion (IsTextOf K) lsas
Bears K (packets.Acknowledgment headers) = AllByRecursion (λ h. K (identity_of_header h)) headers

-- the canonical encoding of a packet from this router
pub record IsOutOf (K : InstanceIdentity → Type 0) (own : ℕ) (out : Out) : Type 0 where
  pub interface : ℕ
  pub says : PacketBody
  pub is : out ≡ out_of own interface says
  pub bears : Bears K says

pub record HoldsWhatIsKnown (old : Router) (moment : Moment) (event : Occurrence)
    (outs : List Out) (new : Router) : Type 0 where
  -- the instances that the event originates
  pub originated : List InstanceIdentity
  pub same_router : new.id ≡ old.id
  pub is_new : (name : InstanceIdentity) → Contains originated name
      → IsNewInstance old moment event new name
  pub held : (name : InstanceIdentity) → Contains (instances_stored new) name
      → IsKnown old event originated name
  pub sent : (out : Out) → Contains outs out → IsOutOf (IsKnown old event originated) old.id out

-- for a router of any run
abbrev pub EventsHoldOnlyWhatIsKnown : Type 0
EventsHoldOnlyWhatIsKnown =
    (old : Router) (moment : Moment) (event : Occurrence) (outs : List Out) (new : Router)
    → Happens old moment event outs new → IsConsistent old → HoldsWhatIsKnown old moment event outs
    new

-- a Link State Update of LSAs whose header fields are in their ranges contains only those LSAs
abbrev pub UpdatesTellWhatTheyBear : Type 0
UpdatesTellWhatTheyBear = (lsas : List Lsa) → AllByRecursion (λ l. IsHeader l.header) lsas
    → (name : InstanceIdentity) → Contains (instances_in_update (map (λ l. text l) lsas)) name
    → Contains (map identity_of_lsa lsas) name
