-- A worked Tick of a router with one interface: its router-LSA is originated, and delayed
-- acknowledgments are sent (RFC 2328, sections 12.4 and 13.5).
use Rattle.std.specs.Prelude.{◌≡◌, ℕ, true, false, List, [], ◌∷◌, ◌++◌, map, Option, None, Some}
use Rattle.std.specs.FinMap as finite
use Rattle.lsdb.specs.Copies.{DatabaseCopy}
use Rattle.lsdb.specs.Headers.{Lsa}
use Rattle.adjacency.specs.Adjacencies.{has_passed}
use Rattle.adjacency.specs.Contents.{Content}
use Rattle.adjacency.specs.Neighbors.{Neighbor}
use Rattle.received.specs.Links.{Link}
use Rattle.received.specs.AreaStates.{Send, sends_at}
use Rattle.event_rules.specs.declared.model.Out.{Out}
use Rattle.event_rules.specs.Events.{Happens}
use Rattle.event_rules.specs.Originations.{has_max_sequence, has_room, initial_sequence_number}
use Rattle.event_rules.specs.Originations.{interval_is_over, is_due, new_instance, next_sequence}
use Rattle.event_rules.specs.Originations.{router_body, router_key}
use Rattle.event_rules.specs.Packing.{outs_of}
use Rattle.event_rules.specs.Routers.{Occurrence, Router}
use Rattle.agreement_laws.specs.WorkedFlush.{full}
use Rattle.agreement_laws.specs.WorkedOwn.{beside}
use Rattle.agreement_laws.specs.WorkedUpdates.{NothingAges}

-- the router-LSA waits, or was removed from the database, or has an age of LSRefreshTime, and may
-- be originated: MinLSInterval has passed and there is room; it doesn't have MaxSequenceNumber;
-- nothing else is announced, no copy reaches MaxAge, and the neighbor's inactivity timer hasn't
-- expired
pub record IsDueAtTick (r : Router) (link : Link) (n : Neighbor) (moment : ℕ)
    (copy : Option DatabaseCopy) : Type 0 where
  pub nothing_ages : NothingAges r moment
  pub is_heard : has_passed n.last_heard link.interface.dead_interval moment ≡ false
  pub nothing_announced : finite.keys r.announced ≡ []
  pub is_due_now : is_due moment r (router_key r.id) ≡ true
  pub is_over : interval_is_over moment (finite.get r.originated (router_key r.id)) ≡ true
  pub copy_there : finite.get r.area.database (router_key r.id) ≡ copy
  pub counts_on : has_max_sequence copy ≡ false
  pub room : has_room (router_key r.id) r ≡ true

abbrev pub originated_lsa : Router → Link → Neighbor → Option DatabaseCopy → Lsa
originated_lsa r link n copy =
    new_instance (router_key r.id) copy (router_body (beside r link (full n)).area.links)

abbrev pub waiting_acknowledgments : Link → List Send
waiting_acknowledgments link =
    sends_at 1 (map Content.Acknowledges (finite.values link.acknowledgments))

-- no self-originated LSA is due, nothing is announced, no copy reaches MaxAge, and the neighbor's
-- inactivity timer hasn't expired
pub record IsNothingDue (r : Router) (link : Link) (n : Neighbor) (moment : ℕ) : Type 0 where
  pub nothing_ages : NothingAges r moment
  pub is_heard : has_passed n.last_heard link.interface.dead_interval moment ≡ false
  pub nothing_announced : finite.keys r.announced ≡ []
  pub not_due : is_due moment r (router_key r.id) ≡ false

pub record ATickOriginates : Type 0 where
  -- without a copy the sequence number is InitialSequenceNumber, otherwise the next one
  pub first_number : (r : Router) (link : Link) (n : Neighbor)
      → (originated_lsa r link n None).header.sequence ≡ initial_sequence_number
  pub next_number : (r : Router) (link : Link) (n : Neighbor) (c : DatabaseCopy)
      → (originated_lsa r link n (Some c)).header.sequence ≡ next_sequence (Some c)
  -- a Link State Update with the new router-LSA is sent first, and later all delayed
  -- acknowledgments
  pub sends : (r new : Router) (link : Link) (n : Neighbor) (moment : ℕ)
      (copy : Option DatabaseCopy) (outs : List Out)
      → IsDueAtTick r link n moment copy
      → Happens (beside r link (full n)) moment Occurrence.Tick outs new
      → (again more : List Send)
      × (outs ≡ outs_of r.id (beside r link (full n)).area.links
      (record {
        interface = 1;
        content = Content.Updates (originated_lsa r link n copy);
      } ∷ (again ++ (waiting_acknowledgments link ++ more))))
  -- if nothing is due, all delayed acknowledgments are sent
  pub acknowledges : (r new : Router) (link : Link) (n : Neighbor) (moment : ℕ) (outs : List Out)
      → IsNothingDue r link n moment
      → Happens (beside r link (full n)) moment Occurrence.Tick outs new
      → (again more : List Send)
      × (outs ≡ outs_of r.id (beside r link (full n)).area.links
      (again ++ (waiting_acknowledgments link ++ more)))
