-- Worked events of a router with one interface: its last request is satisfied, and its router-LSA
-- gets the new adjacency (RFC 2328, sections 10.9 and 12.4).
use Rattle.std.specs.Prelude.{◌≡◌, ◌<◌, ℕ, ◌+◌, ◌+ℤ◌, pos, ◌==◌, true, false, List, [], ◌∷◌, None}
use Rattle.std.specs.Prelude.{Some}
use Rattle.std.specs.FinMap as finite
use Rattle.std.specs.FinSet as set
use Rattle.lsdb.specs.Copies.{DatabaseCopy}
use Rattle.lsdb.specs.Headers.{Lsa, lsa_key}
use Rattle.adjacency.specs.Contents.{Content}
use Rattle.adjacency.specs.declared.state.NeighborState.TheVariants.{Full, Loading}
use Rattle.adjacency.specs.Neighbors.{Neighbor}
use Rattle.adjacency.specs.Requests.{requested_entry}
use Rattle.received.specs.Flooding.{satisfies_request}
use Rattle.received.specs.Links.{Link}
use Rattle.received.specs.AreaStates.{Send}
use Rattle.event_rules.specs.declared.model.Out.{Out}
use Rattle.event_rules.specs.Events.{Happens}
use Rattle.event_rules.specs.Hellos.{is_foreign}
use Rattle.event_rules.specs.Originations.{has_max_sequence, interval_is_over, new_instance}
use Rattle.event_rules.specs.Originations.{router_body, router_key}
use Rattle.event_rules.specs.Packing.{outs_of}
use Rattle.event_rules.specs.Routers.{Occurrence, Router, shown_at}
use Rattle.agreement_laws.specs.WorkedUpdates.{IsUpdateWith, WaitsAt, NothingAges}

-- the router with only this interface and this neighbor
abbrev pub beside : Router → Link → Neighbor → Router
beside r link n =
    record r { area = record r.area { links = record link { neighbor = Some n } ∷ [] } }

abbrev pub loading : Neighbor → Neighbor
loading n = record n { state = Loading }

-- the neighbor's request list has only one LSA, and this one, of another router and without a
-- database copy, satisfies the request; the router's own router-LSA is in the database, below
-- MaxSequenceNumber and MaxAge
pub record MeetsTheLastRequest (r : Router) (n : Neighbor) (moment : ℕ) (lsa : Lsa)
    (own : DatabaseCopy) : Type 0 where
  pub nothing_ages : NothingAges r moment
  pub is_other : is_foreign r.id n.router ≡ true
  pub is_last : finite.len n.requests ≡ 1
  pub is_met : satisfies_request moment lsa (requested_entry n (lsa_key lsa)) ≡ true
  pub is_absent : finite.get r.area.database (lsa_key lsa) ≡ None
  pub is_young : lsa.header.age < 3600
  pub is_foreign_lsa : (lsa.header.advertising_router == r.id) ≡ false
  pub own_there : finite.get r.area.database (router_key r.id) ≡ Some own
  pub counts_on : has_max_sequence (Some own) ≡ false

-- the next instance of the router-LSA after this copy, with the router's present links
abbrev pub next_router_lsa : Router → DatabaseCopy → Lsa
next_router_lsa r own = new_instance (router_key r.id) (Some own) (router_body r.area.links)

abbrev pub sends_update : Lsa → List Send
sends_update lsa = record { interface = 1; content = Content.Updates lsa } ∷ []

pub record ALastRequestIsMet : Type 0 where
  -- the next instance has the next sequence number, and age 0
  pub next_number : (r : Router) (own : DatabaseCopy) → (next_router_lsa r own).header.sequence
      ≡ own.lsa.header.sequence +ℤ pos 1
  pub new_age : (r : Router) (own : DatabaseCopy) → (next_router_lsa r own).header.age ≡ 0
  -- if MinLSInterval has passed since the last origination, the neighbor is Full, and only one Link
  -- State Update with the next router-LSA is sent; the acknowledgment is delayed
  pub at_once : (r new : Router) (link : Link) (n : Neighbor) (moment : ℕ) (bytes : List ℕ)
      (lsa : Lsa) (own : DatabaseCopy) (outs : List Out)
      → MeetsTheLastRequest r n moment lsa own → IsUpdateWith bytes n.router lsa
      → interval_is_over moment (finite.get r.originated (router_key r.id)) ≡ true
      → Happens (beside r link (loading n)) moment (Occurrence.Packet 1 bytes) outs new
      → (shown_at new 1 ≡ Some (n.router, Full)) × WaitsAt new 1 lsa
      × (outs ≡ outs_of r.id (beside r link (loading n)).area.links
      (sends_update (next_router_lsa new own)))
  -- otherwise the neighbor is Full, nothing is sent, and the router-LSA waits for a Tick
  pub later : (r new : Router) (link : Link) (n : Neighbor) (moment last : ℕ) (bytes : List ℕ)
      (lsa : Lsa) (own : DatabaseCopy) (outs : List Out)
      → MeetsTheLastRequest r n moment lsa own → IsUpdateWith bytes n.router lsa
      → finite.get r.originated (router_key r.id) ≡ Some last → last < moment → moment < last + 5
      → Happens (beside r link (loading n)) moment (Occurrence.Packet 1 bytes) outs new
      → (shown_at new 1 ≡ Some (n.router, Full)) × WaitsAt new 1 lsa × (outs ≡ [])
      × (set.contains new.waiting (router_key r.id) ≡ true)
