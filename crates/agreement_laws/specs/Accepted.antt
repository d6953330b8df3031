-- Which Descriptions a router accepts (RFC 2328, section 10.6), and which of their headers is the
-- last one of its key.
use Rattle.std.specs.Prelude.{◌≡◌, ℕ, Bool, true, false, not, ◌&&◌, nat_lt, List, ◌∷◌, ◌++◌, Some}
use Rattle.std.specs.List.{AllByRecursion}
use Rattle.words.specs.Constants.{largest_packet}
use Rattle.words.specs.Numbers.{InterfaceNumber, Moment, RouterNumber}
use Rattle.lsdb.specs.Headers.{Header, key_of}
use Rattle.lsdb.specs.Keys.{same_key}
use Rattle.packet.specs.declared.model.PacketBody.TheVariants as body
use Rattle.packet.specs.declared.model.Description.{Description}
use Rattle.packet.specs.declared.model.Packet.{Packet}
use Rattle.packet.specs.Text.{PacketText}
use Rattle.adjacency.specs.Adjacencies.{two_way_received}
use Rattle.adjacency.specs.Descriptions.{Verdict, knows_types, verdict}
use Rattle.adjacency.specs.Neighbors.{Neighbor}
use Rattle.received.specs.Links.{neighbor_at}
use Rattle.event_rules.specs.Endings.{start_event}
use Rattle.event_rules.specs.Hellos.{is_foreign}
use Rattle.event_rules.specs.Routers.{Occurrence, Router}

-- ---- a Description that comes

-- the event's packet is this Description, which came in at this interface from this router
pub record BringsDescription (event : Occurrence) (interface : InterfaceNumber)
    (router : RouterNumber) (d : Description) : Type 0 where
  pub bytes : List ℕ
  pub packet : Packet
  pub is : event ≡ Occurrence.Packet interface bytes
  pub text : PacketText bytes packet
  pub from : packet.router ≡ router
  pub says : packet.body ≡ body.Description d

-- ---- one that is accepted

-- the next one in Exchange, or the one that ends the negotiation
abbrev pub is_accepting : Verdict → Bool
is_accepting Verdict.Discarded = false
is_accepting Verdict.NegotiatedAsSlave = true
is_accepting Verdict.NegotiatedAsMaster = true
is_accepting Verdict.Repeated = false
is_accepting Verdict.Accepted = true
is_accepting Verdict.Mismatch = false

-- A neighbor in Init goes on to ExStart first. The Description fits into a packet, and knows all
-- types of its headers.
abbrev pub accepts_description : RouterNumber → Moment → Neighbor → Description → Bool
accepts_description own moment n d =
    not (nat_lt largest_packet d.mtu) && knows_types d
    && is_accepting (verdict own (two_way_received moment n).neighbor d)

-- the event's packet is this Description of the neighbor at this interface, as it is once copies
-- have come to MaxAge, and is accepted; the neighbor is another router
pub record AcceptsDescription (old : Router) (moment : Moment) (event : Occurrence)
    (interface : InterfaceNumber) (n : Neighbor) (d : Description) : Type 0 where
  pub brings : BringsDescription event interface n.router d
  pub other : is_foreign old.id n.router ≡ true
  pub there : neighbor_at interface (start_event moment old).router.area.links ≡ Some n
  pub accepted : accepts_description old.id moment n d ≡ true

-- ---- its headers

-- a later header of its key would take the place of its request, even an older one
pub record IsLastOfItsKey (headers : List Header) (h : Header) : Type 0 where
  pub before : List Header
  pub rest : List Header
  pub is : headers ≡ before ++ h ∷ rest
  pub others : AllByRecursion (λ (g : Header). same_key (key_of h) (key_of g) ≡ false) rest
