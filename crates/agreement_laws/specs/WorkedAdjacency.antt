-- Worked events of a router with one interface: an adjacency is formed, a Database Description is
-- repeated, and the adjacency starts over (RFC 2328, sections 10.5, 10.6 and 10.8).
use Rattle.std.specs.Prelude.{◌≡◌, ℕ, ◌%◌, ◌^◌, ◌==◌, true, false, nat_lt, List, [], ◌∷◌, None}
use Rattle.std.specs.Prelude.{Some}
use Rattle.std.specs.FinMap as finite
use Rattle.std.specs.FinSet as set
use Rattle.packet.specs.declared.model.PacketBody.TheVariants as body
use Rattle.packet.specs.declared.model.Description.{Description}
use Rattle.packet.specs.declared.model.Hello.{Hello}
use Rattle.packet.specs.Text.{PacketText}
use Rattle.adjacency.specs.Adjacencies.{next_dd_sequence_start, initial_description}
use Rattle.adjacency.specs.Adjacencies.{requests_nothing, enter_exstart}
use Rattle.adjacency.specs.Contents.{Content}
use Rattle.adjacency.specs.Descriptions.{Verdict, verdict}
use Rattle.adjacency.specs.declared.state.NeighborState.TheVariants.{ExStart, Loading}
use Rattle.adjacency.specs.Neighbors.{Neighbor}
use Rattle.received.specs.Links.{Link, neighbor_at}
use Rattle.received.specs.AreaStates.{Send}
use Rattle.event_rules.specs.declared.model.Out.{Out}
use Rattle.event_rules.specs.Events.{Happens}
use Rattle.event_rules.specs.Hellos.{accepts, is_foreign, names}
use Rattle.event_rules.specs.Packing.{outs_of}
use Rattle.event_rules.specs.Routers.{Occurrence, Router, shown_at}
use Rattle.agreement_laws.specs.WorkedOwn.{beside, loading}
use Rattle.agreement_laws.specs.WorkedUpdates.{NothingAges}

-- the router with only this interface, whose neighbor is Down
abbrev pub lonely : Router → Link → Router
lonely r link = record r { area = record r.area { links = record link { neighbor = None } ∷ [] } }

abbrev pub describes : Description → List Send
describes d = record { interface = 1; content = Content.Describes d } ∷ []

-- an accepted Hello from this router that lists this one
pub record IsNamingHello (r : Router) (link : Link) (bytes : List ℕ) (from : ℕ)
    (h : Hello) : Type 0 where
  pub is_text : PacketText bytes (record { router = from; body = body.Hello h })
  pub is_other : is_foreign r.id from ≡ true
  pub is_accepted : accepts r.id from h (record link { neighbor = None }) ≡ true
  pub is_naming : names r.id h ≡ true

-- a Database Description from this neighbor, with this verdict
pub record IsJudged (r : Router) (n : Neighbor) (bytes : List ℕ) (d : Description) (v : Verdict) :
    Type 0 where
  pub is_text : PacketText bytes (record { router = n.router; body = body.Description d })
  pub is_other : is_foreign r.id n.router ≡ true
  pub fits : nat_lt 8192 d.mtu ≡ false
  pub is_judged : verdict r.id n d ≡ v

pub record AnAdjacencyBegins : Type 0 where
  -- a Hello from a new neighbor that lists this router: ExStart, and only the initial Database
  -- Description with the moment's number is sent
  pub opens : (r new : Router) (link : Link) (moment from : ℕ) (bytes : List ℕ) (h : Hello)
      (outs : List Out)
      → NothingAges r moment → IsNamingHello r link bytes from h
      → Happens (lonely r link) moment (Occurrence.Packet 1 bytes) outs new
      → (shown_at new 1 ≡ Some (from, ExStart))
      × (outs ≡ outs_of r.id (lonely r link).area.links
      (describes (initial_description (moment % 2 ^ 32))))
  -- in Loading with an outstanding Link State Request, a duplicate of the last Database
  -- Description: only the reply is sent again
  pub repeats : (r new : Router) (link : Link) (n : Neighbor) (moment : ℕ) (bytes : List ℕ)
      (d last : Description) (outs : List Out)
      → NothingAges r moment → IsJudged r (loading n) bytes d Verdict.Repeated
      → n.described ≡ Some last
      → requests_nothing n ≡ false → (set.len n.outstanding == 0) ≡ false
      → Happens (beside r link (loading n)) moment (Occurrence.Packet 1 bytes) outs new
      → (shown_at new 1 ≡ Some (n.router, Loading))
      × (outs ≡ outs_of r.id (beside r link (loading n)).area.links (describes last))
  -- a mismatch in Loading: ExStart, the three lists are empty, and only the initial Database
  -- Description with the next number is sent
  pub begins_again : (r new : Router) (link : Link) (n : Neighbor) (moment : ℕ) (bytes : List ℕ)
      (d : Description) (outs : List Out)
      → NothingAges r moment → IsJudged r (loading n) bytes d Verdict.Mismatch
      → Happens (beside r link (loading n)) moment (Occurrence.Packet 1 bytes) outs new
      → (neighbor_at 1 new.area.links ≡ Some (enter_exstart moment (loading n)).neighbor)
      × (outs ≡ outs_of r.id (beside r link (loading n)).area.links
      (describes (initial_description (next_dd_sequence_start moment n.dd_sequence_start))))
  pub clears : (moment : ℕ) (n : Neighbor)
      → ((enter_exstart moment n).neighbor.state ≡ ExStart)
      × ((enter_exstart moment n).neighbor.summary ≡ finite.empty)
      × ((enter_exstart moment n).neighbor.requests ≡ finite.empty)
      × ((enter_exstart moment n).neighbor.retransmissions ≡ finite.empty)
