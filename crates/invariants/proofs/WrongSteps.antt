-- An acknowledgment of another instance than the one on the list removes nothing.
use Rattle.std.proofs.Common.{◌≡◌, ℕ, true, false, cond, List, Option, None, Some, refl, sym, ap}
use Rattle.std.proofs.Common.{subst, ◌∙◌}
use Rattle.std.specs.Prelude.{◌==◌}
use Rattle.std.specs.List.{Contains}
use Rattle.std.proofs.lemmas.Bool.{eqb-false}
use Rattle.lsdb.specs.Headers.{Header}
use Rattle.packet.specs.declared.model.PacketBody.TheVariants as body
use Rattle.packet.specs.declared.model.Packet.{Packet}
use Rattle.packet.specs.Text.{PacketText}
use Rattle.packet.proofs.Whole.{one_packet}
use Rattle.adjacency.specs.Neighbors.{Neighbor}
use Rattle.adjacency.specs.Retransmissions.{remove_retransmission}
use Rattle.adjacency.proofs.Kept.{chosen}
use Rattle.received.specs.Links.{Link, neighbor_at}
use Rattle.received.proofs.Flooded.{removed}
use Rattle.event_rules.specs.declared.model.Out.{Out}
use Rattle.event_rules.specs.InstanceIdentities.{InstanceIdentity, instances_advertised}
use Rattle.event_rules.specs.Routers.{Occurrence, Router}
use Rattle.invariants.specs.NewInstances.{BringsLsa, lsas_brought}
use Rattle.invariants.specs.TakenOff.{MayLeaveByFlooding, IsTakenOff, IsTold, listed_instance}
use Rattle.invariants.specs.Worlds.{Keeps}
use Rattle.invariants.specs.WrongSteps.{AcknowledgesAnother, AnotherAcknowledgmentTakesNothingOff}
use Rattle.invariants.specs.WrongSteps.{IsOwed, release_on, remove_retransmission_in, without_entry}
use Rattle.invariants.proofs.Leaving.{numbered_kept}
use Rattle.invariants.proofs.Lists.{of_empty}

bytes_of : List ℕ → Occurrence → List ℕ
bytes_of other (Occurrence.Packet number bytes) = bytes
bytes_of other Occurrence.Tick = other
bytes_of other (Occurrence.Redistribute tagged tag priced price) = other
bytes_of other (Occurrence.Withdraw prefix) = other
bytes_of other (Occurrence.Install answers) = other
bytes_of other (Occurrence.LinkDown number) = other

same_bytes : (a b : ℕ) (bytes others : List ℕ)
    → Occurrence.Packet a bytes ≡ Occurrence.Packet b others → bytes ≡ others
unfolding bytes_of
same_bytes a b bytes others e = ap (bytes_of bytes) e

module _ (old : Router) (moment number : ℕ) (n : Neighbor) (name : InstanceIdentity)
    (bytes : List ℕ)
    (headers : List Header)
    (at : AcknowledgesAnother n name bytes headers) where
  abbrev event : Occurrence
  event = Occurrence.Packet number bytes

  abbrev sent : Packet
  sent = record { router = n.router; body = body.Acknowledgment headers }

  -- whatever packet the bytes encode, it is this one
  is_it : (other : ℕ) (others : List ℕ) (packet : Packet) → event ≡ Occurrence.Packet other others
      → PacketText others packet → sent ≡ packet
  is_it other others packet is text =
      one_packet bytes sent packet at.text
      (subst (λ bs. PacketText bs packet) (sym (same_bytes number other bytes others is)) text)

  pub never_kept : (new : Router) (outs : List Out) (originated : List InstanceIdentity)
      → IsTakenOff old moment event new number n name
      → Keeps old moment event outs new originated → ⊥
  never_kept new outs originated taken_off keeps =
      let told : IsTold event number n.router name = keeps.taken number n name taken_off in
      at.another (subst (λ (p : Packet). Contains (instances_advertised p.body) name)
      (sym (is_it number told.bytes told.packet told.is told.text)) told.told)

module _ (old : Router) (moment number : ℕ) (n : Neighbor) (name : InstanceIdentity)
    (bytes : List ℕ)
    (headers : List Header)
    (at : AcknowledgesAnother n name bytes headers)
    (owed : IsOwed old moment number n name) where
  abbrev new : Router
  new = without_entry number name.key old

  abbrev packet_event : Occurrence
  packet_event = Occurrence.Packet number bytes

  left_there : neighbor_at number new.area.links ≡ Some (remove_retransmission name.key n)
  left_there =
      numbered_kept (λ (o : Option Neighbor). o ≡ Some n)
      (λ (o : Option Neighbor). o ≡ Some (remove_retransmission name.key n)) (λ none. absurd cc)
      (λ (e : ℕ × Link). cond (e.0 == number) (release_on name.key e.1) e.1) number
      (λ link is. chosen (λ (l : Link). l.neighbor ≡ Some (remove_retransmission name.key n))
      (number == number) (release_on name.key link) link
      (λ here. ap (remove_retransmission_in name.key) is)
      (λ away. absurd (eqb-false number number away refl)))
      old.area.links owed.there

  not_by_flooding : MayLeaveByFlooding old moment packet_event new number n name.key → ⊥
  not_by_flooding (MayLeaveByFlooding.Newer newer st) =
      let b : BringsLsa packet_event newer.lsa = newer.brought in
      of_empty newer.lsa (subst (λ (p : Packet). Contains (lsas_brought p.body) newer.lsa)
      (sym (is_it old moment number n name bytes headers at b.interface b.bytes b.packet b.is
      b.text)) b.among)
  not_by_flooding (MayLeaveByFlooding.Originated it st) = it.not_before it.now
  not_by_flooding (MayLeaveByFlooding.Aged comes asked) =
      let no_such : true ≡ false = sym comes ∙ owed.young in absurd cc

  pub taken_off : IsTakenOff old moment packet_event new number n name
  taken_off = record {
    after = remove_retransmission name.key n;
    adjacent = record {
      was = owed.there;
      is = left_there;
      same_router = refl;
      from = owed.part;
      on = owed.part;
    };
    stood = owed.owed;
    left = λ still. let none : None ≡ Some name =
        sym (ap (listed_instance name.key) (removed n.retransmissions name.key)) ∙ still in
        absurd cc;
    not_by_flooding = not_by_flooding;
  }

pub another_takes_nothing_off : AnotherAcknowledgmentTakesNothingOff
another_takes_nothing_off = record {
  never = λ old new moment number n name bytes headers at taken_off outs originated keeps.
      never_kept old moment number n name bytes headers at new outs originated taken_off keeps;
  one = taken_off;
}
