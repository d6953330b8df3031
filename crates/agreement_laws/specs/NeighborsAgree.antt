-- Full neighbors agree on what was refreshed (RFC 2328, sections 10.3 and 13): if each is Full with
-- the other, and an LSA is on neither one's retransmission list, both hold the same instance;
-- unless one of them described it to the other in their exchange, or was without a copy after it
-- had told the other that it has it.
use Rattle.std.specs.Prelude.{◌≡◌, ◌⊎◌, ℕ, ◌<◌, Bool, true, false, List, [], length, map, None}
use Rattle.std.specs.Prelude.{Some}
use Rattle.std.specs.Prelude.{slice_get}
use Rattle.std.specs.FinMap as finite
use Rattle.std.specs.List.{Contains}
use Rattle.words.specs.Numbers.{InterfaceNumber, RouterNumber}
use Rattle.words.specs.declared.key.Key.{Key}
use Rattle.lsdb.specs.Copies.{DatabaseCopy}
use Rattle.lsdb.specs.Headers.{Header, key_of}
use Rattle.lsdb.specs.Order.{is_max_age}
use Rattle.packet.specs.declared.model.PacketBody.{PacketBody}
use Rattle.packet.specs.declared.model.PacketBody.TheVariants as body
use Rattle.packet.specs.declared.model.Packet.{Packet}
use Rattle.packet.specs.Text.{PacketText}
use Rattle.adjacency.specs.declared.state.NeighborState.TheVariants.{Full}
use Rattle.adjacency.specs.Neighbors.{Neighbor}
use Rattle.received.specs.Links.{neighbor_at}
use Rattle.event_rules.specs.Events.{Step}
use Rattle.event_rules.specs.InstanceIdentities.{InstanceIdentity, identity_of_header}
use Rattle.event_rules.specs.InstanceIdentities.{identity_of_lsa}
use Rattle.event_rules.specs.InstanceIdentities.{instances_in_update}
use Rattle.event_rules.specs.Routers.{Occurrence, Router}
use Rattle.agreement_laws.specs.Exchanged.{Conversation, Converses, Describes, conversation_with}
use Rattle.agreement_laws.specs.NeighborHistories.{Ends, InSomeTurn, InSomeTurnSince, IsHistory}
use Rattle.agreement_laws.specs.NeighborHistories.{Pair, Party, Side, Turn, event_of, interface_of}
use Rattle.agreement_laws.specs.NeighborHistories.{other_side, party}
use Rattle.agreement_laws.specs.Ranks.{is_at_least}
use Rattle.agreement_laws.specs.SaidIsHeld.{IsToDescribe, Waits, young}

-- ---- instances, whatever their ages

-- `a` is at least as new as `b`: by the sequence number, then the checksum
abbrev pub is_as_new : InstanceIdentity → InstanceIdentity → Bool
is_as_new a b = is_at_least (young a) (young b)

-- the router holds an instance of the key that is at least as new
pub record HoldsAsNew (r : Router) (name : InstanceIdentity) : Type 0 where
  pub copy : DatabaseCopy
  pub there : finite.get r.area.database name.key ≡ Some copy
  pub as_new : is_as_new (identity_of_lsa copy.lsa) name ≡ true

-- ---- what was said

-- the instances in a packet: in a Database Description, a Link State Update or a Link State
-- Acknowledgment
abbrev pub instances_told : PacketBody → List InstanceIdentity
instances_told (body.Hello h) = []
instances_told (body.Description d) = map identity_of_header d.headers
instances_told (body.Request keys) = []
instances_told (body.Update lsas) = instances_in_update lsas
instances_told (body.Acknowledgment headers) = map identity_of_header headers

-- the event is the receipt of these bytes, which have the instance
pub record BringsInstance (interface : InterfaceNumber) (bytes : List ℕ) (name : InstanceIdentity)
    (step : Step)
    : Type 0 where
  pub is : step.event ≡ Occurrence.Packet interface bytes
  pub packet : Packet
  pub text : PacketText bytes packet
  pub told : Contains (instances_told packet.body) name

-- ---- what is said and then lost

-- the router has no copy of the key
abbrev pub IsWithout : Key → Router → Type 0
IsWithout key r = finite.get r.area.database key ≡ None

-- the bytes acknowledge the instance at MaxAge
pub record AcknowledgesMaxAge (bytes : List ℕ) (name : InstanceIdentity) : Type 0 where
  pub packet : Packet
  pub text : PacketText bytes packet
  pub headers : List Header
  pub acknowledges : packet.body ≡ body.Acknowledgment headers
  pub header : Header
  pub among : Contains headers header
  pub named : identity_of_header header ≡ name
  pub flushed : is_max_age header.age ≡ true

-- Why the router may not hold what its packet with this index says: after the turn from `before` to
-- `after`,
pub data Forgets (interface : InterfaceNumber) (name : InstanceIdentity) (text : ℕ)
    (before after : Party)
    : Type 0 where
  -- it has no copy, and the packet was sent by then
  Without : IsWithout name.key after.router → text < length after.sent
      → Forgets interface name text before after
  -- it has no copy, and an acknowledgment of the instance is delayed
  WithoutWaiting : IsWithout name.key after.router → (header : Header)
      → Waits interface header after.router.area.links → identity_of_header header ≡ name
      → Forgets interface name text before after
  -- it has no copy, and the instance is to be described to the other one
  WithoutDescribed : IsWithout name.key after.router
      → IsToDescribe interface name after.router.area.links
      → Forgets interface name text before after
  -- it has restarted since it sent the packet
  BegunAnew : text < after.began → Forgets interface name text before after
  -- it had no copy before, and the packet acknowledges the instance at MaxAge: there was nothing to
  -- flush
  NothingToFlush : IsWithout name.key before.router → (bytes : List ℕ)
      → slice_get after.sent text ≡ Some bytes → AcknowledgesMaxAge bytes name
      → Forgets interface name text before after

-- this is so in some turn of the history
abbrev pub HasForgotten : (ends : Ends) → Side → InstanceIdentity → ℕ → (now : Pair)
    (earlier : List Pair) → IsHistory ends now earlier → Type 0
HasForgotten ends side name text now earlier h =
    InSomeTurn ends (λ (before after : Pair) (t : Turn ends before after).
    Forgets (interface_of side ends) name text (party side before) (party side after))
    now earlier h

-- ---- why Full neighbors may disagree

-- the router of this side had such an event, and has been in the conversation since
abbrev pub InConversation : (ends : Ends) → Side → Conversation → (RouterNumber → Step → Type 0)
    → (now : Pair) (earlier : List Pair) → IsHistory ends now earlier → Type 0
InConversation ends side with_it Such now earlier h =
    InSomeTurnSince ends
    (λ (w : Pair). Converses (interface_of side ends) with_it (party side w).router)
    (λ (before after : Pair) (t : Turn ends before after).
    (step : Step) × (event_of ends side before after t ≡ Some step)
    × Such (party side before).router.id step) now earlier h

-- The router of this side is in the conversation, and has this instance: why the other one may hold
-- none that is at least as new.
pub data Exception (ends : Ends) (side : Side) (with_it : Conversation) (name : InstanceIdentity)
    (now : Pair) (earlier : List Pair) (h : IsHistory ends now earlier) : Type 0 where
  -- it described one that is at least as new to the other one
  Described : (header : Header) → key_of header ≡ name.key
      → is_as_new (identity_of_header header) name ≡ true
      → InConversation ends side with_it
      (λ (own : RouterNumber) (step : Step).
      Describes own step.outs (interface_of side ends) header) now earlier h
      → Exception ends side with_it name now earlier h
  -- the other one sent one that is at least as new, in a Database Description, a Link State Update
  -- or a Link State Acknowledgment, and has lost it: it did send these bytes, and each time has
  -- lost what they say
  Forgotten : (bytes : List ℕ) (told : InstanceIdentity) → told.key ≡ name.key
      → is_as_new told name ≡ true → InConversation ends side with_it
      (λ (own : RouterNumber) (step : Step). BringsInstance (interface_of side ends) bytes told
      step)
      now earlier h
      → Contains (party (other_side side) now).sent bytes
      → ((text : ℕ) → slice_get (party (other_side side) now).sent text ≡ Some bytes
      → HasForgotten ends (other_side side) told text now earlier h)
      → Exception ends side with_it name now earlier h

-- ---- the law

-- the router of this side is Full with the other one, and the key isn't on the retransmission list
pub record IsFullAndAcknowledged (interface : InterfaceNumber) (key : Key) (r : Router) : Type 0
  where
    pub neighbor : Neighbor
    pub there : neighbor_at interface r.area.links ≡ Some neighbor
    pub full : neighbor.state ≡ Full
    pub acknowledged : finite.contains_key neighbor.retransmissions key ≡ false

pub record NeighborsAgreeOnWhatWasRenewed : Type 0 where
  -- if one of them holds an instance, the other holds one that is at least as new
  pub held : (ends : Ends) (now : Pair) (earlier : List Pair) (h : IsHistory ends now earlier)
      → (side : Side) (key : Key)
      → (at_rest : IsFullAndAcknowledged (interface_of side ends) key (party side now).router)
      → (copy : DatabaseCopy) → finite.get (party side now).router.area.database key ≡ Some copy
      → HoldsAsNew (party (other_side side) now).router (identity_of_lsa copy.lsa)
      ⊎ Exception ends side (conversation_with at_rest.neighbor) (identity_of_lsa copy.lsa)
      now earlier h
  -- so if this applies to both, they hold the same instance
  pub same : (ends : Ends) (now : Pair) (earlier : List Pair) (h : IsHistory ends now earlier)
      → (key : Key) (left : IsFullAndAcknowledged ends.left key now.left.router)
      → (right : IsFullAndAcknowledged ends.right key now.right.router)
      → (a b : DatabaseCopy) → finite.get now.left.router.area.database key ≡ Some a
      → finite.get now.right.router.area.database key ≡ Some b
      → (identity_of_lsa a.lsa ≡ identity_of_lsa b.lsa)
      ⊎ (Exception ends Side.Left (conversation_with left.neighbor) (identity_of_lsa a.lsa)
      now earlier h
      ⊎ Exception ends Side.Right (conversation_with right.neighbor) (identity_of_lsa b.lsa)
      now earlier h)
