-- A worked event: a Link State Update with a new LSA is received twice from a Full neighbor (RFC
-- 2328, sections 13 and 13.5).
use Rattle.std.specs.Prelude.{◌≡◌, ◌<◌, ℕ, ◌==◌, true, false, List, [], ◌∷◌, Option, None, Some}
use Rattle.std.specs.FinMap as finite
use Rattle.std.specs.List.{list_any}
use Rattle.lsa.specs.Reading.{lsa_in}
use Rattle.lsdb.specs.Copies.{has_just_aged_out}
use Rattle.lsdb.specs.Headers.{Lsa, lsa_key}
use Rattle.packet.specs.declared.model.PacketBody.TheVariants as body
use Rattle.packet.specs.Text.{PacketText}
use Rattle.adjacency.specs.Contents.{Content}
use Rattle.adjacency.specs.declared.state.NeighborState.TheVariants.{Full}
use Rattle.adjacency.specs.Neighbors.{Neighbor}
use Rattle.adjacency.specs.Requests.{requested_entry}
use Rattle.received.specs.Links.{Link, any_exchange_or_loading, link_at}
use Rattle.received.specs.AreaStates.{Send}
use Rattle.event_rules.specs.declared.model.Out.{Out}
use Rattle.event_rules.specs.Events.{Happens}
use Rattle.event_rules.specs.Hellos.{is_foreign}
use Rattle.event_rules.specs.Packing.{outs_of}
use Rattle.event_rules.specs.Routers.{Occurrence, Router}

-- no copy reaches MaxAge at this moment
abbrev pub NothingAges : Router → ℕ → Type 0
NothingAges r moment =
    list_any (λ e. has_just_aged_out r.moment moment e.1) (finite.entries r.area.database) ≡ false

-- no neighbor is in Exchange or Loading, and no copy reaches MaxAge at this moment
pub record IsAtRest (r : Router) (moment : ℕ) : Type 0 where
  pub nobody : any_exchange_or_loading r.area.links ≡ false
  pub nothing_ages : NothingAges r moment

-- the interface with this number has this link, and its neighbor is Full
pub record HasFullNeighbor (r : Router) (interface : ℕ) (link : Link) (n : Neighbor) : Type 0 where
  pub link_there : link_at interface r.area.links ≡ Some link
  pub neighbor_there : link.neighbor ≡ Some n
  pub is_other : is_foreign r.id n.router ≡ true
  pub is_full : n.state ≡ Full

-- the bytes encode that router's Link State Update with this one LSA
pub record IsUpdateWith (bytes : List ℕ) (from : ℕ) (lsa : Lsa) : Type 0 where
  pub bytes_of_lsa : List ℕ
  pub is_text : PacketText bytes (record { router = from; body = body.Update (bytes_of_lsa ∷ []) })
  pub is_read : lsa_in bytes_of_lsa ≡ Some lsa

-- the interface with this number has a delayed acknowledgment of the LSA as it was received
abbrev pub WaitsAt : Router → ℕ → Lsa → Type 0
WaitsAt r interface lsa =
    (link : Link) × (link_at interface r.area.links ≡ Some link)
    × (finite.get link.acknowledgments (lsa_key lsa) ≡ Some lsa.header)

-- the router installed it at this moment by flooding; it may have been sent
abbrev pub HasBrought : Router → ℕ → Lsa → Type 0
HasBrought r moment lsa =
    (sent : Option ℕ) × (finite.get r.area.database (lsa_key lsa) ≡ Some (record {
      lsa = lsa;
      stored = moment;
      received = Some moment;
      sent = sent;
    }))

-- only an acknowledgment of the LSA is sent, at the interface with this number
abbrev pub acknowledges_at_once : ℕ → Lsa → List Send
acknowledges_at_once interface lsa = record {
  interface = interface;
  content = Content.Acknowledges lsa.header;
} ∷ []

-- a Full neighbor sends one Link State Update with a new LSA of another router twice in one second:
-- after the first the LSA is in the database and its acknowledgment is delayed; the second is
-- acknowledged directly, nothing else is sent, and the router, including its database, stays the
-- same
abbrev pub ANewLsaComesTwice : Type 0
ANewLsaComesTwice =
    (old middle new : Router) (moment interface : ℕ) (bytes : List ℕ) (lsa : Lsa) (link : Link)
    (n : Neighbor) (outs more : List Out)
    → IsAtRest old moment → HasFullNeighbor old interface link n → requested_entry n (lsa_key lsa)
    ≡ None
    → IsUpdateWith bytes n.router lsa
    → finite.get old.area.database (lsa_key lsa) ≡ None → lsa.header.age < 3600
    → (lsa.header.advertising_router == old.id) ≡ false
    → Happens old moment (Occurrence.Packet interface bytes) outs middle
    → Happens middle moment (Occurrence.Packet interface bytes) more new
    → HasBrought middle moment lsa × WaitsAt middle interface lsa
    × (more ≡ outs_of middle.id middle.area.links (acknowledges_at_once interface lsa))
    × (new ≡ middle)
