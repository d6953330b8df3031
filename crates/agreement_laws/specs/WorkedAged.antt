-- Worked events: an LSA at MaxAge without a database copy is received from a Full neighbor (RFC
-- 2328, section 13).
use Rattle.std.specs.Prelude.{◌≡◌, ℕ, ◌==◌, false, List, None, Some}
use Rattle.std.specs.FinMap as finite
use Rattle.std.specs.List.{Contains}
use Rattle.lsdb.specs.Headers.{Lsa, lsa_key}
use Rattle.adjacency.specs.Contents.{Content}
use Rattle.adjacency.specs.Neighbors.{Neighbor}
use Rattle.adjacency.specs.Requests.{requested_entry}
use Rattle.adjacency.specs.declared.state.NeighborState.TheVariants.{Loading}
use Rattle.received.specs.Links.{Link, link_at, neighbor_at}
use Rattle.event_rules.specs.declared.model.Out.{Out}
use Rattle.event_rules.specs.Events.{Happens}
use Rattle.event_rules.specs.Packing.{outs_of}
use Rattle.event_rules.specs.Routers.{Occurrence, Router}
use Rattle.agreement_laws.specs.WorkedUpdates.{HasBrought, HasFullNeighbor, IsAtRest, IsUpdateWith}
use Rattle.agreement_laws.specs.WorkedUpdates.{WaitsAt, acknowledges_at_once, NothingAges}

-- the interface with this number has this link, whose neighbor is in Loading and doesn't have this
-- key on its request list
pub record IsLoadingWithout (r : Router) (interface : ℕ) (link : Link) (n : Neighbor)
    (lsa : Lsa) : Type 0 where
  pub link_there : link_at interface r.area.links ≡ Some link
  pub neighbor_there : link.neighbor ≡ Some n
  pub is_loading : n.state ≡ Loading
  pub not_asked : requested_entry n (lsa_key lsa) ≡ None

-- the LSA is on the retransmission list of the neighbor at the interface with this number
abbrev pub IsOwedTo : Router → ℕ → ℕ → Lsa → Type 0
IsOwedTo r moment interface lsa =
    (n : Neighbor) × (neighbor_at interface r.area.links ≡ Some n)
    × (finite.get n.retransmissions (lsa_key lsa) ≡ Some (record {
      header = lsa.header;
      at = moment;
    }))

pub record AnAgedLsaComes : Type 0 where
  -- if no neighbor is in Exchange or Loading, it is only acknowledged, directly, and isn't
  -- installed; the links stay the same
  pub all_full : (old new : Router) (moment interface : ℕ) (bytes : List ℕ) (lsa : Lsa)
      (link : Link) (n : Neighbor) (outs : List Out) → IsAtRest old moment
      → HasFullNeighbor old interface link n → IsUpdateWith bytes n.router lsa
      → finite.get old.area.database (lsa_key lsa) ≡ None → lsa.header.age ≡ 3600
      → Happens old moment (Occurrence.Packet interface bytes) outs new
      → (outs ≡ outs_of old.id old.area.links (acknowledges_at_once interface lsa))
      × (finite.get new.area.database (lsa_key lsa) ≡ None)
      × (new.area.links ≡ old.area.links)
  -- if another neighbor is in Loading and it isn't requested of that, the event's own part installs
  -- it, sends it to that neighbor, puts it on its retransmission list, and delays the
  -- acknowledgment
  pub one_loading : (old new : Router) (moment interface other : ℕ) (bytes : List ℕ) (lsa : Lsa)
      (link : Link) (n : Neighbor) (another : Link) (m : Neighbor) (outs : List Out)
      → NothingAges old moment
      → HasFullNeighbor old interface link n → IsUpdateWith bytes n.router lsa
      → IsLoadingWithout old other another m lsa → (interface == other) ≡ false
      → finite.get old.area.database (lsa_key lsa) ≡ None
      → (lsa.header.advertising_router == old.id) ≡ false
      → (event : Happens old moment (Occurrence.Packet interface bytes) outs new)
      → HasBrought event.after.router moment lsa × WaitsAt event.after.router interface lsa
      × IsOwedTo event.after.router moment other lsa
      × Contains event.after.sends (record { interface = other; content = Content.Updates lsa })
