-- What a router and its neighbor say to each other about LSAs in one conversation (RFC 2328,
-- sections 10.6, 13 and 13.7): the headers in the neighbor's packets, and those that the router
-- describes to it.
use Rattle.std.specs.Prelude.{◌≡◌, ℕ, true, List, [], ◌∷◌, Option, Some, map}
use Rattle.std.specs.List.{Contains, filter_map}
use Rattle.words.specs.Numbers.{InterfaceNumber, RouterNumber}
use Rattle.lsa.specs.Reading.{lsa_in}
use Rattle.lsdb.specs.Headers.{Header, Lsa}
use Rattle.lsdb.specs.Instances.{ListEntry}
use Rattle.packet.specs.declared.model.PacketBody.{PacketBody}
use Rattle.packet.specs.declared.model.PacketBody.TheVariants as body
use Rattle.packet.specs.declared.model.Description.{Description}
use Rattle.packet.specs.declared.model.Packet.{Packet}
use Rattle.packet.specs.Text.{PacketText}
use Rattle.adjacency.specs.Neighbors.{Neighbor, is_exchange_or_later}
use Rattle.received.specs.Links.{neighbor_at}
use Rattle.event_rules.specs.declared.model.Out.{Out}
use Rattle.event_rules.specs.Events.{Happens, Step}
use Rattle.event_rules.specs.Packing.{out_of}
use Rattle.event_rules.specs.Routers.{Occurrence, Router}

-- ---- a conversation

-- The neighbor's Router ID, and the DD sequence number with which the router started the attempt.
-- Each further attempt has another number, until the neighbor is Down.
pub record Conversation : Type 0 where
  pub router : RouterNumber
  pub attempt : Option ℕ

abbrev pub conversation_with : Neighbor → Conversation
conversation_with n = record { router = n.router; attempt = n.dd_sequence_start }

-- the router has this conversation with the neighbor at the interface, which is in Exchange or
-- later
pub record Converses (interface : InterfaceNumber) (with_it : Conversation) (r : Router)
    : Type 0 where
  pub neighbor : Neighbor
  pub there : neighbor_at interface r.area.links ≡ Some neighbor
  pub exchanging : is_exchange_or_later neighbor.state ≡ true
  pub is : conversation_with neighbor ≡ with_it

-- ---- what is said in an event

-- the headers in a packet: those of a Database Description, of the LSAs in a Link State Update that
-- can be parsed, and of a Link State Acknowledgment
abbrev pub headers_told : PacketBody → List Header
headers_told (body.Hello h) = []
headers_told (body.Description d) = d.headers
headers_told (body.Request keys) = []
headers_told (body.Update lsas) = map (λ (l : Lsa). l.header) (filter_map lsa_in lsas)
headers_told (body.Acknowledgment headers) = headers

-- the event's packet was received at this interface from this router, and has the header
pub record Tells (event : Occurrence) (interface : InterfaceNumber) (router : RouterNumber)
    (header : Header) : Type 0 where
  pub bytes : List ℕ
  pub packet : Packet
  pub is : event ≡ Occurrence.Packet interface bytes
  pub text : PacketText bytes packet
  pub from : packet.router ≡ router
  pub told : Contains (headers_told packet.body) header

-- a Database Description with the header is sent at the interface
pub record Describes (own : RouterNumber) (outs : List Out) (interface : InterfaceNumber)
    (header : Header) : Type 0 where
  pub description : Description
  pub sent : Contains outs (out_of own interface (body.Description description))
  pub among : Contains description.headers header

-- the event's packet has the header, or the event describes it to the neighbor
pub data IsExchanged (own : RouterNumber) (step : Step) (interface : InterfaceNumber)
    (router : RouterNumber) (header : Header) : Type 0 where
  Told : Tells step.event interface router header → IsExchanged own step interface router header
  Described : Describes own step.outs interface header
      → IsExchanged own step interface router header

-- ---- in a run

-- a run from `old` to `new` in which the conversation continues: it is the neighbor's at each point
abbrev pub GoesOn : InterfaceNumber → Conversation → Router → List Step → Router → Type 0
GoesOn interface with_it old [] new = (new ≡ old) × Converses interface with_it old
GoesOn interface with_it old (s ∷ steps) new =
    Converses interface with_it old
    × (middle : Router) × Happens old s.moment s.event s.outs middle
    × GoesOn interface with_it middle steps new

-- the header was exchanged in an event of the run, at the moment of the entry, and the conversation
-- has continued since
pub data WasExchanged (interface : InterfaceNumber) (with_it : Conversation) (entry : ListEntry)
    : Router → List Step → Router → Type 0 where
  Now : (old middle new : Router) (step : Step) (rest : List Step)
      → Happens old step.moment step.event step.outs middle
      → IsExchanged old.id step interface with_it.router entry.header
      → entry.at ≡ step.moment → GoesOn interface with_it middle rest new
      → WasExchanged interface with_it entry old (step ∷ rest) new
  Later : (old middle new : Router) (step : Step) (rest : List Step)
      → Happens old step.moment step.event step.outs middle
      → WasExchanged interface with_it entry middle rest new
      → WasExchanged interface with_it entry old (step ∷ rest) new
