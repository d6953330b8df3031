-- What a whole event keeps of the Descriptions that were sent at an interface, and of its neighbor:
-- each is right by the neighbor's role.
use Rattle.std.proofs.Common.{◌≡◌, ℕ, true, List, [], None, Some, refl}
use Rattle.std.specs.Prelude.{◌==◌}
use Rattle.std.specs.FinMap as finite
use Rattle.lsdb.specs.Keys.{ByKey}
use Rattle.packet.specs.declared.model.PacketBody.TheVariants as body
use Rattle.packet.specs.declared.model.Description.{Description}
use Rattle.packet.specs.declared.model.Packet.{Packet}
use Rattle.lsdb.specs.Headers.{lsa_with_age}
use Rattle.lsdb.specs.Copies.{age_prematurely, install_originated}
use Rattle.adjacency.specs.Neighbors.{Neighbor}
use Rattle.received.specs.Links.{neighbor_at}
use Rattle.received.specs.AreaStates.{AreaState, on_database}
use Rattle.event_rules.specs.declared.model.Out.{Out}
use Rattle.event_rules.specs.Endings.{end_event, start_event}
use Rattle.event_rules.specs.EventState.{EventState}
use Rattle.event_rules.specs.Events.{Happens}
use Rattle.event_rules.specs.Hellos.{is_foreign}
use Rattle.event_rules.specs.Originations.{new_instance}
use Rattle.event_rules.specs.Packets.{requested_lsas}
use Rattle.event_rules.specs.Routers.{Occurrence, Router}
use Rattle.event_rules.proofs.Walk.{outcome}
use Rattle.invariants.specs.InOrder.{IsConsistent}
use Rattle.invariants.proofs.Acknowledged.{in_order, order_begun, order_brings, order_kept}
use Rattle.invariants.proofs.EventWalk.{IsHeard, IsKeptToo, event_kept_too}
use Rattle.agreement_laws.specs.Exchanged.{Conversation}
use Rattle.agreement_laws.specs.Accepted.{AcceptsDescription, accepts_description}
use Rattle.agreement_laws.proofs.Accepting.{brought}
use Rattle.agreement_laws.proofs.AnswerParts.{Aged, Stands}
use Rattle.agreement_laws.proofs.AnswerParts as parts

module _ (old : Router) (moment : ℕ) (event : Occurrence) (number : ℕ)
    (Acc : Description → Type 0) (Began : Conversation → Type 0) (Was : Description → Type 0)
    (takes : (n : Neighbor) (d : Description) → AcceptsDescription old moment event number n d
    → Acc d) where
  abbrev start : EventState
  start = start_event moment old

  abbrev pub IsAged : AreaState → Type 0
  IsAged o = Aged old.id Acc Began Was number moment o

  abbrev X : AreaState → ByKey ℕ → Type 0
  X o t = Stands old.id Acc Began Was number moment o

  module _ (aged : IsAged (outcome start)) where
    taken : (place : ℕ) (packet : Packet) (d : Description) → IsHeard start event place packet
        → packet.body ≡ body.Description d → (m : Neighbor)
        → neighbor_at number start.router.area.links ≡ Some m → (number == place) ≡ true
        → is_foreign old.id m.router ≡ true → accepts_description old.id moment m d ≡ true → Acc d
    taken place packet d heard says m there here foreign accepted =
        takes m d (record {
          brings = brought number m d heard says there here;
          other = foreign;
          there = there;
          accepted = accepted;
        })

    each_part : IsKeptToo (in_order old.id) X X start moment event
    each_part = record {
      flushes = λ k c o t at young area h.
          parts.floods old.id Acc Began Was number moment None (lsa_with_age 3600 c.lsa)
          (on_database (age_prematurely moment k) o) h;
      originates = λ k says p of_key goes may wants so h.
          parts.floods old.id Acc Began Was number moment None
          (new_instance k (finite.get p.router.area.database k) says)
          (on_database (install_originated moment
          (new_instance k (finite.get p.router.area.database k) says)) (outcome p)) h;
      case = λ place packet heard case lsa o t among other is area h.
          parts.cases old.id Acc Began Was number moment case place lsa o h;
      hello = λ place packet hello heard is so h.
          parts.hellos old.id Acc Began Was number moment start.router.id place packet.router hello
          refl (outcome start) h;
      description = λ place packet d heard is so h.
          parts.descriptions old.id Acc Began Was number moment place d (outcome start) aged
          (taken place packet d heard is);
      acknowledgment = λ place packet headers heard is so h.
          parts.acknowledgments old.id Acc Began Was number moment place headers (outcome start) h;
      requested = λ place keys o t area h.
          parts.requested old.id Acc Began Was number moment place
          (requested_lsas moment o.area.database keys) o h;
      mismatch = λ place o t area h.
          parts.mismatches old.id Acc Began Was number moment place o h;
      forgets = λ r o area h. h;
      inactive = λ o t area h. parts.inactive old.id Acc Began Was number moment o h;
      again = λ o t area h. parts.agains old.id Acc Began Was number moment o h;
      acknowledges = λ o t area h. parts.acknowledges old.id Acc Began Was number moment o h;
      hellos = λ o t area h. parts.hellos_sent old.id Acc Began Was number moment o h;
      link_down = λ place o t area h. parts.down old.id Acc Began Was number moment place o h;
      loaded = λ o t area h. parts.loaded old.id Acc Began Was number moment o h;
      requests = λ o t area h. parts.requests old.id Acc Began Was number moment o h;
      removes = λ o t area h. h;
      stays = λ o t area h. h;
    }

  pub at_end : (outs : List Out) (new : Router) (happens : Happens old moment event outs new)
      → IsConsistent old → IsAged (record { area = old.area; sends = [] })
      → Stands old.id Acc Began Was number moment (outcome (end_event old moment happens.after))
  at_end outs new happens order h =
      let aged : IsAged (outcome start) =
      parts.ages old.id Acc Began Was number moment old.moment (finite.entries old.area.database)
      (record { area = old.area; sends = [] }) h in
      event_kept_too (in_order old.id) (order_kept old.id) X X old moment event (each_part aged)
      happens.after (order_brings old event) happens.own (order_begun old moment order)
      aged.stands
