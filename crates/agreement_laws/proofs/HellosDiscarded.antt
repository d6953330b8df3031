-- Which received Hellos are discarded.
use Rattle.std.proofs.Common.{◌≡◌, ◌≢◌, ℕ, ◌==◌, Bool, false, not, ◌&&◌, Option, None, Some, refl}
use Rattle.std.proofs.Common.{ap, ◌∙◌, bit_and, ne_eqb}
use Rattle.std.proofs.lemmas.Bool.{cond-false, eq-eqb}
use Rattle.std.proofs.Math.Bool.{and-false}
use Rattle.packet.specs.declared.model.Hello.{Hello}
use Rattle.adjacency.specs.Adjacencies as adjacencies
use Rattle.adjacency.specs.Neighbors.{Neighbor}
use Rattle.received.specs.Links.{Link, link_at}
use Rattle.received.specs.AreaStates.{AreaState}
use Rattle.event_rules.specs.Hellos.{accepts, agrees, is_foreign, may_be, names}
use Rattle.event_rules.specs.Packets.{accept_hello, receive_hello_on}
use Rattle.agreement_laws.specs.HellosDiscarded.{HellosAreDiscarded, IsDiscarded}

-- a Hello that isn't accepted at a link
unheard : (own moment number from : ℕ) (h : Hello) (link : Link) (o : AreaState)
    → accepts own from h link ≡ false → receive_hello_on own moment number from h (Some link) o ≡ o
unheard own moment number from h link o e =
    cond-false (accepts own from h link)
    (accept_hello moment number (adjacencies.after_hello moment from (names own h) link.neighbor) o)
    o e

discarded : (own moment number from : ℕ) (h : Hello) (link : Link) (o : AreaState)
    → link_at number o.area.links ≡ Some link → accepts own from h link ≡ false
    → IsDiscarded own moment number from h o
discarded own moment number from h link o there e =
    ap (λ l. receive_hello_on own moment number from h l o) there
    ∙ unheard own moment number from h link o e

-- a Hello that is accepted on no link
discarded_everywhere : (own moment number from : ℕ) (h : Hello) (o : AreaState)
    → ((link : Link) → accepts own from h link ≡ false) → (l : Option Link)
    → receive_hello_on own moment number from h l o ≡ o
discarded_everywhere own moment number from h o e None = refl
discarded_everywhere own moment number from h o e (Some link) =
    unheard own moment number from h link o (e link)

disagrees : (own from : ℕ) (h : Hello) (link : Link) → agrees link h ≡ false
    → accepts own from h link ≡ false
disagrees own from h link e = ap (λ a. is_foreign own from && (a && may_be link.neighbor from)) e
    ∙ and-false (is_foreign own from)

foreign : (own from : ℕ) (h : Hello) → is_foreign own from ≡ false → (link : Link)
    → accepts own from h link ≡ false
foreign own from h e link = ap (λ f. f && (agrees link h && may_be link.neighbor from)) e

abbrev same_hello : Link → Hello → Bool
same_hello link h = h.hello_interval == link.interface.hello_interval

abbrev same_dead : Link → Hello → Bool
same_dead link h = h.dead_interval == link.interface.dead_interval

abbrev has_e : Hello → Bool
has_e h = not (bit_and h.options 2 == 0)

other_hello : (own moment number from : ℕ) (h : Hello) (link : Link) (o : AreaState)
    → link_at number o.area.links ≡ Some link → h.hello_interval ≢ link.interface.hello_interval
    → IsDiscarded own moment number from h o
other_hello own moment number from h link o there ne =
    discarded own moment number from h link o there
    (disagrees own from h link (ap (λ a. (a && same_dead link h) && has_e h)
    (ne_eqb h.hello_interval link.interface.hello_interval ne)))

other_dead : (own moment number from : ℕ) (h : Hello) (link : Link) (o : AreaState)
    → link_at number o.area.links ≡ Some link → h.dead_interval ≢ link.interface.dead_interval
    → IsDiscarded own moment number from h o
other_dead own moment number from h link o there ne =
    discarded own moment number from h link o there
    (disagrees own from h link (ap (λ a. (same_hello link h && a) && has_e h)
    (ne_eqb h.dead_interval link.interface.dead_interval ne)
    ∙ ap (λ b. b && has_e h) (and-false (same_hello link h))))

without_e : (own moment number from : ℕ) (h : Hello) (link : Link) (o : AreaState)
    → link_at number o.area.links ≡ Some link → bit_and h.options 2 ≡ 0
    → IsDiscarded own moment number from h o
without_e own moment number from h link o there e =
    discarded own moment number from h link o there
    (disagrees own from h link (ap (λ k. (same_hello link h && same_dead link h) && not
    (k == 0)) e ∙ and-false (same_hello link h && same_dead link h)))

of_another : (own moment number from : ℕ) (h : Hello) (link : Link) (n : Neighbor) (o : AreaState)
    → link_at number o.area.links ≡ Some link → link.neighbor ≡ Some n → n.router ≢ from
    → IsDiscarded own moment number from h o
of_another own moment number from h link n o there is ne =
    let other : may_be link.neighbor from ≡ false = ap (λ m. may_be m from) is
    ∙ ne_eqb n.router from ne in
    discarded own moment number from h link o there
    (ap (λ m. is_foreign own from && (agrees link h && m)) other
    ∙ ap (λ b. is_foreign own from && b) (and-false (agrees link h))
    ∙ and-false (is_foreign own from))

of_nobody : (own moment number : ℕ) (h : Hello) (o : AreaState)
    → IsDiscarded own moment number 0 h o
of_nobody own moment number h o = discarded_everywhere own moment number 0 h o
    (foreign own 0 h refl) (link_at number o.area.links)

of_itself : (own moment number : ℕ) (h : Hello) (o : AreaState)
    → IsDiscarded own moment number own h o
of_itself own moment number h o =
    discarded_everywhere own moment number own h o
    (foreign own own h (ap (λ b. not (own == 0) && not b) (eq-eqb own own refl)
    ∙ and-false (not (own == 0)))) (link_at number o.area.links)

any_mask : (own moment number from mask : ℕ) (h : Hello) (o : AreaState) (l : Option Link)
    → receive_hello_on own moment number from (record h {
      mask = mask;
    }) l o ≡ receive_hello_on own moment number from h l o
any_mask own moment number from mask h o None = refl
any_mask own moment number from mask h o (Some link) = refl

pub hellos_are_discarded : HellosAreDiscarded
hellos_are_discarded = record {
  hello_interval = other_hello;
  dead_interval = other_dead;
  e_bit = without_e;
  another = of_another;
  nobody = of_nobody;
  own = of_itself;
  mask = λ own moment number from mask h o. any_mask own moment number from mask h o
      (link_at number o.area.links);
}
