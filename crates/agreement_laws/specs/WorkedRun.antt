-- A worked run of a router with one interface: a Hello starts an adjacency, and the exchange
-- follows in the next event (RFC 2328, sections 10.5, 10.6 and 10.8).
use Rattle.std.specs.Prelude.{◌≡◌, ℕ, ◌%◌, ◌^◌, true, nat_lt, List, [], ◌∷◌, Some}
use Rattle.packet.specs.declared.model.PacketBody.TheVariants as body
use Rattle.packet.specs.declared.model.Hello.{Hello}
use Rattle.packet.specs.Text.{PacketText}
use Rattle.adjacency.specs.Adjacencies.{initial_description}
use Rattle.adjacency.specs.Descriptions.{young_copies}
use Rattle.adjacency.specs.declared.state.NeighborState.TheVariants.{Exchange, ExStart}
use Rattle.received.specs.Links.{Link}
use Rattle.event_rules.specs.declared.model.Out.{Out}
use Rattle.event_rules.specs.Events.{Run, Step}
use Rattle.event_rules.specs.Packing.{outs_of}
use Rattle.event_rules.specs.Routers.{Occurrence, Router, shown_at}
use Rattle.agreement_laws.specs.WorkedAdjacency.{IsNamingHello, describes, lonely}
use Rattle.agreement_laws.specs.WorkedExchange.{reply}
use Rattle.agreement_laws.specs.WorkedUpdates.{NothingAges}

-- these bytes are received at the first interface, and this is sent
abbrev pub receives : ℕ → List ℕ → List Out → Step
receives moment bytes outs = record {
  moment = moment;
  event = Occurrence.Packet 1 bytes;
  outs = outs;
}

-- a Hello from a new neighbor with a larger Router ID that lists this router, and later that
-- neighbor's initial Database Description: the first is answered with the initial Database
-- Description with the moment's number, the second leads from ExStart to Exchange, and is answered
-- with one Database Description with its number and the headers of the database
abbrev pub AnAdjacencyIsNegotiated : Type 0
AnAdjacencyIsNegotiated =
    (r new : Router) (link : Link) (moment later from sequence : ℕ) (hello_bytes bytes : List ℕ)
    (h : Hello) (outs answers : List Out)
    → NothingAges r moment → IsNamingHello r link hello_bytes from h → nat_lt r.id from ≡ true
    → PacketText bytes (record {
      router = from;
      body = body.Description (initial_description sequence);
    })
    → (run : Run (lonely r link)
    (receives moment hello_bytes outs ∷ receives later bytes answers ∷ []) new)
    → NothingAges run.0 later
    → (outs ≡ outs_of r.id (lonely r link).area.links
    (describes (initial_description (moment % 2 ^ 32))))
    × (shown_at run.0 1 ≡ Some (from, ExStart)) × (shown_at new 1 ≡ Some (from, Exchange))
    × (answers ≡ outs_of r.id run.0.area.links
    (describes (reply later sequence (young_copies later run.0.area.database))))
