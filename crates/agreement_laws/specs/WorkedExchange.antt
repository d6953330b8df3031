-- Worked events of a router with one interface: the database exchange as the slave (RFC 2328,
-- sections 10.6, 10.8 and 10.9).
use Rattle.std.specs.Prelude.{◌≡◌, ℕ, ◌==◌, true, false, nat_lt, List, [], ◌∷◌, map, take, Some}
use Rattle.std.specs.FinMap as finite
use Rattle.std.specs.FinSet as set
use Rattle.words.specs.declared.key.Key.{Key}
use Rattle.lsa.specs.Reading.{is_known_type}
use Rattle.lsdb.specs.Headers.{Header, key_of}
use Rattle.lsdb.specs.Instances.{ListEntry, listed_header_now}
use Rattle.lsdb.specs.Keys.{ByKey}
use Rattle.packet.specs.declared.model.Description.{Description}
use Rattle.adjacency.specs.Adjacencies.{initial_description, requests_nothing}
use Rattle.adjacency.specs.Contents.{Content}
use Rattle.adjacency.specs.Descriptions.{Verdict, is_more_recent, young_copies}
use Rattle.adjacency.specs.declared.state.NeighborState.TheVariants.{Exchange, ExStart, Loading}
use Rattle.adjacency.specs.Neighbors.{Neighbor}
use Rattle.received.specs.Links.{Link}
use Rattle.event_rules.specs.declared.model.Out.{Out}
use Rattle.event_rules.specs.Events.{Happens}
use Rattle.event_rules.specs.Packing.{outs_of}
use Rattle.event_rules.specs.Routers.{Occurrence, Router, shown_at}
use Rattle.agreement_laws.specs.WorkedAdjacency.{IsJudged, describes}
use Rattle.agreement_laws.specs.WorkedOwn.{beside}
use Rattle.agreement_laws.specs.WorkedUpdates.{NothingAges}

abbrev pub in_ex_start : Neighbor → Neighbor
in_ex_start n = record n { state = ExStart }

abbrev pub slave : Neighbor → Neighbor
slave n = record n { state = Exchange; is_master = false }

-- the slave's Database Description with this number and the first of these headers
abbrev pub reply : ℕ → ℕ → ByKey ListEntry → Description
reply moment sequence summary = record {
  mtu = 8192;
  options = 2;
  init = false;
  more = nat_lt 408 (finite.len summary);
  master = false;
  sequence = sequence;
  headers =
      map (λ (e : Key × ListEntry). listed_header_now moment e.1)
      (take 408 (finite.entries summary));
}

-- the master's last Database Description, with one header
abbrev pub last_with : Header → Description → Description
last_with h d = record d { more = false; headers = h ∷ [] }

pub record AnExchangeAsSlave : Type 0 where
  -- in ExStart, an initial Database Description from the larger Router ID: Exchange, and one
  -- Database Description is sent with its number and as many of the database's headers as fit
  pub negotiates : (r new : Router) (link : Link) (n : Neighbor) (moment sequence : ℕ)
      (bytes : List ℕ) (outs : List Out)
      → NothingAges r moment
      → IsJudged r (in_ex_start n) bytes (initial_description sequence) Verdict.NegotiatedAsSlave
      → requests_nothing n ≡ true
      → Happens (beside r link (in_ex_start n)) moment (Occurrence.Packet 1 bytes) outs new
      → (shown_at new 1 ≡ Some (n.router, Exchange))
      × (outs ≡ outs_of r.id (beside r link (in_ex_start n)).area.links
      (describes (reply moment sequence (young_copies moment r.area.database))))
  -- in Exchange, if all that is left to describe fits, the master's last Database Description with
  -- one header that is wanted: Loading; the reply with its number is sent, and then a Link State
  -- Request for that one LSA
  pub loads : (r new : Router) (link : Link) (n : Neighbor) (moment : ℕ) (bytes : List ℕ)
      (d : Description) (h : Header) (outs : List Out)
      → NothingAges r moment → IsJudged r (slave n) bytes (last_with h d) Verdict.Accepted
      → is_known_type h.ls_type ≡ true → is_more_recent moment r.area.database h ≡ true
      → nat_lt 408 (finite.len n.summary) ≡ false → finite.entries n.requests ≡ []
      → (set.len n.outstanding == 0) ≡ true
      → Happens (beside r link (slave n)) moment (Occurrence.Packet 1 bytes) outs new
      → (shown_at new 1 ≡ Some (n.router, Loading))
      × (outs ≡ outs_of r.id (beside r link (slave n)).area.links
      (record { interface = 1; content = Content.Describes (reply moment d.sequence n.summary) }
      ∷ record { interface = 1; content = Content.Requests (key_of h ∷ []) } ∷ []))
