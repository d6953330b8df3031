-- A Description that is accepted: the three tests that it passes, and what its event does first.
use Rattle.std.proofs.Common.{◌≡◌, ℕ, Bool, true, false, cond, not, ◌&&◌, ◌||◌, Option, Some}
use Rattle.std.proofs.Common.{ap, subst, sym, ◌∙◌}
use Rattle.std.specs.Prelude.{◌==◌, nat_lt}
use Rattle.std.proofs.lemmas.Bool.{and_from, and_parts, eq-eqb, eqb-true, not-true}
use Rattle.packet.specs.declared.model.PacketBody.{PacketBody}
use Rattle.packet.specs.declared.model.PacketBody.TheVariants as body
use Rattle.packet.specs.declared.model.Description.{Description}
use Rattle.packet.specs.declared.model.Packet.{Packet}
use Rattle.packet.specs.Text.{PacketText}
use Rattle.packet.proofs.Whole.{one_packet}
use Rattle.adjacency.specs.Adjacencies.{two_way_received}
use Rattle.adjacency.specs.Descriptions.{knows_types, verdict}
use Rattle.adjacency.specs.Neighbors.{Neighbor}
use Rattle.received.specs.Links.{neighbor_at}
use Rattle.event_rules.specs.Endings.{start_event}
use Rattle.event_rules.specs.EventState.{EventState, on_area}
use Rattle.event_rules.specs.Events.{OwnPart}
use Rattle.event_rules.specs.Hellos.{is_foreign}
use Rattle.event_rules.specs.Packets.{after_packet, after_heard, is_from, is_hello}
use Rattle.event_rules.specs.Packets.{receive_description}
use Rattle.event_rules.specs.Packets.{neighbor_is_exchange_or_later}
use Rattle.event_rules.specs.Routers.{Occurrence, Router}
use Rattle.invariants.proofs.EventWalk.{IsHeard}
use Rattle.agreement_laws.specs.Accepted.{AcceptsDescription, BringsDescription}
use Rattle.agreement_laws.specs.Accepted.{accepts_description, is_accepting}

-- ---- the tests

-- it fits into a packet, knows all types, and has a verdict that accepts it
abbrev pub Passes : ℕ → ℕ → Neighbor → Description → Type 0
Passes own moment m d =
    (nat_lt 8192 d.mtu ≡ false) × (knows_types d ≡ true)
    × (is_accepting (verdict own (two_way_received moment m).neighbor d) ≡ true)

pub its_tests : (own moment : ℕ) (m : Neighbor) (d : Description)
    → accepts_description own moment m d ≡ true → Passes own moment m d
its_tests own moment m d e =
    let fits : Bool = not (nat_lt 8192 d.mtu) in
    let all = and_parts (fits && knows_types d)
    (is_accepting (verdict own (two_way_received moment m).neighbor d)) e in
    let both = and_parts fits (knows_types d) all.0 in
    (not-true (nat_lt 8192 d.mtu) both.0, both.1, all.1)

pub by_tests : (own moment : ℕ) (m : Neighbor) (d : Description) → Passes own moment m d
    → accepts_description own moment m d ≡ true
by_tests own moment m d p =
    let fits : Bool = not (nat_lt 8192 d.mtu) in
    and_from (fits && knows_types d)
    (is_accepting (verdict own (two_way_received moment m).neighbor d))
    (and_from fits (knows_types d) (ap not p.0) p.1) p.2

-- ---- one that comes from the neighbor at the interface

pub brought : {start : EventState} {event : Occurrence} {place : ℕ} {packet : Packet}
    → (number : ℕ) (m : Neighbor) (d : Description) → IsHeard start event place packet
    → packet.body ≡ body.Description d → neighbor_at number start.router.area.links ≡ Some m
    → (number == place) ≡ true → BringsDescription event number m.router d
brought {start} {event} {place} {packet} number m d heard says at here = record {
  bytes = heard.bytes;
  packet = packet;
  is = heard.is ∙ ap (λ (i : ℕ). Occurrence.Packet i heard.bytes) (sym same);
  text = heard.text;
  from = sym (eqb-true m.router packet.router its_router);
  says = says;
}
  where
    same : number ≡ place
    same = eqb-true number place here

    its_router : (m.router == packet.router) ≡ true
    its_router =
        ap (is_from packet.router)
        (sym (ap (λ (i : ℕ). neighbor_at i start.router.area.links) (sym same) ∙ at))
        ∙ heard.from (ap is_hello says)

-- ---- the event

-- its packet is heard
pub is_taken : (old : Router) (moment : ℕ) (event : Occurrence) (number : ℕ) (n : Neighbor)
    (d : Description) → AcceptsDescription old moment event number n d → (after : EventState)
    → OwnPart moment event (start_event moment old) after
    → after ≡ on_area (receive_description old.id moment number d) (start_event moment old)
is_taken old moment event number n d a after own =
    by_packet (subst (λ (e : Occurrence). OwnPart moment e begins after) a.brings.is own)
  where
    begins : EventState
    begins = start_event moment old

    its_other : is_foreign old.id a.brings.packet.router ≡ true
    its_other = subst (λ (i : ℕ). is_foreign old.id i ≡ true) (sym a.brings.from) a.other

    of_body : (says : PacketBody) → says ≡ body.Description d → (o : Option Neighbor) → o ≡ Some n
        → cond (is_foreign old.id a.brings.packet.router &&
        (is_hello says || is_from a.brings.packet.router o))
        (after_heard moment number a.brings.packet.router (neighbor_is_exchange_or_later o) says
        begins)
        begins
        ≡ on_area (receive_description old.id moment number d) begins
    of_body says its o at =
        (λ i. cond (is_foreign old.id a.brings.packet.router &&
        (is_hello (its i) || is_from a.brings.packet.router (at i)))
        (after_heard moment number a.brings.packet.router (neighbor_is_exchange_or_later (at i))
        (its i)
        begins) begins)
        ∙ (λ i. cond (its_other i &&
        (false || eq-eqb n.router a.brings.packet.router (sym a.brings.from) i))
        (on_area (receive_description old.id moment number d) begins) begins)

    by_packet : (packet : Packet) × PacketText a.brings.bytes packet
        × (after ≡ after_packet moment number packet begins) → after
        ≡ on_area (receive_description old.id moment number d) begins
    by_packet k =
        k.2 ∙ ap (λ (p : Packet). after_packet moment number p begins)
        (one_packet a.brings.bytes k.0 a.brings.packet k.1 a.brings.text)
        ∙ of_body a.brings.packet.body a.brings.says (neighbor_at number begins.router.area.links)
        a.there
