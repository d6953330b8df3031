-- Worked events of a router with one interface: its router-LSA is received with MaxSequenceNumber
-- (RFC 2328, sections 12.1.6, 13.4 and 14.1).
use Rattle.std.specs.Prelude.{◌≡◌, ◌<◌, ℕ, pos, true, false, List, [], ◌∷◌, Option, None, Some}
use Rattle.std.specs.FinMap as finite
use Rattle.words.specs.declared.key.Key.{Key}
use Rattle.lsdb.specs.Copies.{DatabaseCopy, received_just_now, is_aged_out, newer_than_copy}
use Rattle.lsdb.specs.Headers.{Header, Lsa, header_with_age, key_of, lsa_with_age, lsa_key}
use Rattle.lsdb.specs.Instances.{ListEntry, same_as_listed}
use Rattle.packet.specs.declared.model.PacketBody.TheVariants as body
use Rattle.packet.specs.Text.{PacketText}
use Rattle.adjacency.specs.declared.state.NeighborState.TheVariants.{Full}
use Rattle.adjacency.specs.Neighbors.{Neighbor}
use Rattle.received.specs.Links.{Link, neighbor_at}
use Rattle.event_rules.specs.declared.model.Out.{Out}
use Rattle.event_rules.specs.Events.{Happens}
use Rattle.event_rules.specs.Hellos.{is_foreign}
use Rattle.event_rules.specs.Originations.{router_key}
use Rattle.event_rules.specs.Packing.{outs_of}
use Rattle.event_rules.specs.Routers.{Occurrence, Router}
use Rattle.agreement_laws.specs.WorkedOwn.{beside, sends_update}
use Rattle.agreement_laws.specs.WorkedUpdates.{IsUpdateWith, NothingAges}

abbrev pub full : Neighbor → Neighbor
full n = record n { state = Full }

-- the LSA is this router's router-LSA with MaxSequenceNumber, newer than the copy, which flooding
-- didn't install in the same second
pub record ComesBack (r : Router) (n : Neighbor) (moment : ℕ) (lsa : Lsa)
    (own : DatabaseCopy) : Type 0 where
  pub nothing_ages : NothingAges r moment
  pub is_other : is_foreign r.id n.router ≡ true
  pub own_there : finite.get r.area.database (router_key r.id) ≡ Some own
  pub not_just_now : received_just_now moment (Some own) ≡ false
  pub is_own : lsa_key lsa ≡ router_key r.id
  pub is_newer : newer_than_copy moment lsa.header (Some own) ≡ true
  pub is_last : lsa.header.sequence ≡ pos 2147483647
  pub is_young : lsa.header.age < 3600

-- the copy has MaxAge from this moment on
abbrev pub IsFlushed : Router → ℕ → Lsa → Type 0
IsFlushed r moment lsa =
    (sent : Option ℕ) × (finite.get r.area.database (router_key r.id) ≡ Some (record {
      lsa = lsa_with_age 3600 lsa;
      stored = moment;
      received = Some moment;
      sent = sent;
    }))

-- the neighbor at interface 1 has this entry on its retransmission list
abbrev pub HasOnList : Router → Key → Option ListEntry → Type 0
HasOnList r key entry =
    (n : Neighbor) × (neighbor_at 1 r.area.links ≡ Some n)
    × (finite.get n.retransmissions key ≡ entry)

-- this header's instance is on the neighbor's retransmission list, and the copy has MaxAge
pub record AcknowledgesTheLast (r : Router) (n : Neighbor) (moment : ℕ) (bytes : List ℕ)
    (h : Header) (entry : ListEntry) (c : DatabaseCopy) : Type 0 where
  pub nothing_ages : NothingAges r moment
  pub is_other : is_foreign r.id n.router ≡ true
  pub is_text : PacketText bytes (record { router = n.router; body = body.Acknowledgment (h ∷ []) })
  pub on_list : finite.get n.retransmissions (key_of h) ≡ Some entry
  pub is_same : same_as_listed moment h entry ≡ true
  pub copy_there : finite.get r.area.database (key_of h) ≡ Some c
  pub is_aged : is_aged_out moment c ≡ true

pub record TheNumbersEnd : Type 0 where
  -- from a Full neighbor: it is flushed and on its retransmission list, and only one Link State
  -- Update with it at MaxAge is sent
  pub flushes : (r new : Router) (link : Link) (n : Neighbor) (moment : ℕ) (bytes : List ℕ)
      (lsa : Lsa) (own : DatabaseCopy) (outs : List Out)
      → ComesBack r n moment lsa own → IsUpdateWith bytes n.router lsa
      → Happens (beside r link (full n)) moment (Occurrence.Packet 1 bytes) outs new
      → IsFlushed new moment lsa
      × HasOnList new (router_key r.id)
      (Some (record { header = header_with_age 3600 lsa.header; at = moment }))
      × (outs ≡ outs_of r.id (beside r link (full n)).area.links
      (sends_update (lsa_with_age 3600 lsa)))
  -- an entry at MaxAge is the same instance at each later moment, and a copy stays at MaxAge
  pub entry_stays : (h : Header) (at moment : ℕ)
      → same_as_listed moment (header_with_age 3600 h)
      (record { header = header_with_age 3600 h; at = at })
      ≡ true
  pub copy_stays : (lsa : Lsa) (at moment : ℕ) (received sent : Option ℕ)
      → is_aged_out moment (record {
        lsa = lsa_with_age 3600 lsa;
        stored = at;
        received = received;
        sent = sent;
      }) ≡ true
  -- the acknowledgment removes it from the list, and the copy is removed from the database in the
  -- same event; nothing is sent
  pub leaves : (r new : Router) (link : Link) (n : Neighbor) (moment : ℕ) (bytes : List ℕ)
      (h : Header) (entry : ListEntry) (c : DatabaseCopy) (outs : List Out)
      → AcknowledgesTheLast r n moment bytes h entry c
      → Happens (beside r link (full n)) moment (Occurrence.Packet 1 bytes) outs new
      → (finite.get new.area.database (key_of h) ≡ None) × HasOnList new (key_of h) None
      × (outs ≡ [])
