-- A worked event of a router with one interface: it receives an LSA in its own name that it doesn't
-- originate (RFC 2328, sections 13.4 and 14.1).
use Rattle.std.specs.Prelude.{◌≡◌, ◌<◌, ℕ, true, false, List, None, Option, Some}
use Rattle.std.specs.FinMap as finite
use Rattle.lsdb.specs.Headers.{Lsa, header_with_age, lsa_with_age, lsa_key}
use Rattle.lsdb.specs.Keys.{same_key}
use Rattle.adjacency.specs.Neighbors.{Neighbor}
use Rattle.received.specs.Links.{Link}
use Rattle.event_rules.specs.declared.model.Out.{Out}
use Rattle.event_rules.specs.Events.{Happens}
use Rattle.event_rules.specs.Hellos.{is_foreign}
use Rattle.event_rules.specs.Originations.{router_key}
use Rattle.event_rules.specs.Packing.{outs_of}
use Rattle.event_rules.specs.Routers.{Occurrence, Router}
use Rattle.agreement_laws.specs.WorkedFlush.{HasOnList, full}
use Rattle.agreement_laws.specs.WorkedOwn.{beside, sends_update}
use Rattle.agreement_laws.specs.WorkedUpdates.{IsUpdateWith, WaitsAt, NothingAges}

-- the LSA is this router's, but neither its router-LSA nor that of an announced destination, such
-- as a summary-LSA; the database has no copy of it
pub record IsUnannounced (r : Router) (n : Neighbor) (moment : ℕ) (lsa : Lsa) : Type 0 where
  pub nothing_ages : NothingAges r moment
  pub is_other : is_foreign r.id n.router ≡ true
  pub is_own : lsa.header.advertising_router ≡ r.id
  pub no_router_lsa : same_key (lsa_key lsa) (router_key r.id) ≡ false
  pub no_destination : finite.get r.announced (lsa_key lsa) ≡ None
  pub is_absent : finite.get r.area.database (lsa_key lsa) ≡ None
  pub is_young : lsa.header.age < 3600

-- the copy has MaxAge from this moment on, and is on the neighbor's retransmission list
pub record IsFlushed (r : Router) (moment : ℕ) (lsa : Lsa) : Type 0 where
  pub sent : Option ℕ
  pub copy : finite.get r.area.database (lsa_key lsa) ≡ Some (record {
    lsa = lsa_with_age 3600 lsa;
    stored = moment;
    received = Some moment;
    sent = sent;
  })
  pub on_list : HasOnList r (lsa_key lsa)
      (Some (record { header = header_with_age 3600 lsa.header; at = moment }))

-- from a Full neighbor: it is flushed, the acknowledgment of it as received is delayed, and only
-- one Link State Update with it at MaxAge is sent
abbrev pub WhatIsNotAnnouncedIsFlushed : Type 0
WhatIsNotAnnouncedIsFlushed =
    (r new : Router) (link : Link) (n : Neighbor) (moment : ℕ) (bytes : List ℕ) (lsa : Lsa)
    (outs : List Out)
    → IsUnannounced r n moment lsa → IsUpdateWith bytes n.router lsa
    → Happens (beside r link (full n)) moment (Occurrence.Packet 1 bytes) outs new
    → IsFlushed new moment lsa × WaitsAt new 1 lsa
    × (outs ≡ outs_of r.id (beside r link (full n)).area.links
    (sends_update (lsa_with_age 3600 lsa)))
