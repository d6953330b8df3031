-- A Hello from a new neighbor starts an adjacency, at any of the interfaces.
use Rattle.std.proofs.Common.{◌≡◌, ℕ, zero, suc, ◌+◌, ◌%◌, ◌^◌, ◌==◌, Bool, true, false, cond, ◌&&◌}
use Rattle.std.proofs.Common.{◌||◌, List, [], ◌∷◌, ◌++◌, map, None, Some, refl, sym, ap, subst, ◌∙◌}
use Rattle.std.proofs.Common.{arith, slice_get}
use Rattle.std.specs.List.{enumerate_from, flat_map}
use Rattle.std.proofs.lemmas.Bool.{eqb-true}
use Rattle.lsa.specs.declared.body.LsaBody.TheVariants as lsa
use Rattle.lsa.specs.declared.body.RouterLink.{RouterLink}
use Rattle.lsa.specs.declared.body.LinkKind.TheVariants.{PointToPoint}
use Rattle.packet.specs.declared.model.PacketBody.TheVariants as body
use Rattle.packet.specs.declared.model.Packet.{Packet}
use Rattle.packet.proofs.Whole.{one_packet}
use Rattle.adjacency.specs.Adjacencies as adjacencies
use Rattle.adjacency.specs.Adjacencies.{initial_description, enter_exstart}
use Rattle.adjacency.specs.Contents.{Content}
use Rattle.adjacency.specs.Neighbors.{Neighbor, fresh, is_full, is_exchange_or_loading}
use Rattle.received.specs.Links.{Link, any_exchange_or_loading, change_link, link_at, neighbor_at}
use Rattle.received.specs.Links.{neighbor_on, neighbor_is_exchange_or_loading}
use Rattle.adjacency.specs.Steps.{named_neighbor}
use Rattle.event_rules.specs.Endings.{start_event, end_event}
use Rattle.event_rules.specs.Originations.{links_of, point_to_point, router_body, stub}
use Rattle.event_rules.specs.Packets.{accept_hello, after_packet, is_from, receive_hello}
use Rattle.event_rules.specs.Packets.{receive_hello_on, with_neighbor}
use Rattle.event_rules.specs.Packing.{outs_of}
use Rattle.event_rules.specs.EventState.{EventState, on_area}
use Rattle.event_rules.specs.Routers.{shown_at}
use Rattle.agreement_laws.specs.WorkedHello.{ANeighborIsHeard}
use Rattle.agreement_laws.proofs.WorkedEnds.{begins, ended, ends_by}
use Rattle.agreement_laws.proofs.WorkedLinks.{link_changed}
use Rattle.agreement_laws.proofs.WorkedUpdates.{itself, start}

-- a neighbor that is neither Full nor in Exchange or Loading appears on a link without a neighbor
module _ (number : ℕ) (n : Neighbor) (not_full : is_full n.state ≡ false)
    (not_busy : is_exchange_or_loading n.state ≡ false) where
  abbrev changed : (ℕ × Link) → Link
  changed e = cond (e.0 == number) (with_neighbor n e.1) e.1

  -- the link with this number has no neighbor
  IsFree : ℕ → List Link → Type 0
  IsFree k xs = (i : ℕ) (x : Link) → slice_get xs i ≡ Some x → (k + i == number) ≡ true → x.neighbor
      ≡ None

  free_on : (k : ℕ) (x : Link) (xs : List Link) → IsFree k (x ∷ xs) → IsFree (k + 1) xs
  unfolding IsFree
  free_on k x xs free i y e is =
      let place : k + 1 + i ≡ k + suc i = omega arith in
      free (suc i) y e (subst (λ j. (j == number) ≡ true) place is)

  free_here : (k : ℕ) (x : Link) (xs : List Link) → IsFree k (x ∷ xs) → (k == number) ≡ true
      → x.neighbor ≡ None
  unfolding IsFree
  free_here k x xs free is =
      let place : k ≡ k + 0 = omega arith in
      free zero x refl (subst (λ j. (j == number) ≡ true) place is)

  same_links : (b : Bool) (x : Link) → (b ≡ true → x.neighbor ≡ None)
      → links_of (cond b (with_neighbor n x) x) ≡ links_of x
  same_links true x none =
      let told : List RouterLink = record {
        link_id = n.router;
        link_data = x.interface.address;
        kind = PointToPoint;
        metric = x.interface.cost;
        tos = [];
      } ∷ [] in
      ap (λ b. cond b told [] ++ stub x.interface ∷ []) not_full
      ∙ ap (λ o. point_to_point x.interface o ++ stub x.interface ∷ []) (sym (none refl))
  same_links false x none = refl

  same_busy : (b : Bool) (x : Link) → (b ≡ true → x.neighbor ≡ None)
      → neighbor_is_exchange_or_loading (cond b (with_neighbor n x) x).neighbor
      ≡ neighbor_is_exchange_or_loading x.neighbor
  same_busy true x none = not_busy ∙ ap neighbor_is_exchange_or_loading (sym (none refl))
  same_busy false x none = refl

  all_links : (k : ℕ) (xs : List Link) → IsFree k xs
      → flat_map links_of (map changed (enumerate_from k xs)) ≡ flat_map links_of xs
  all_links k [] free = refl
  all_links k (x ∷ xs) free = λ i. same_links (k == number) x (free_here k x xs free) i
      ++ all_links (k + 1) xs (free_on k x xs free) i

  all_busy : (k : ℕ) (xs : List Link) → IsFree k xs
      → any_exchange_or_loading (map changed (enumerate_from k xs)) ≡ any_exchange_or_loading xs
  all_busy k [] free = refl
  all_busy k (x ∷ xs) free = λ i. same_busy (k == number) x (free_here k x xs free) i || all_busy
      (k + 1) xs (free_on k x xs free) i

  free_from : (xs : List Link) (link : Link) → link_at number xs ≡ Some link → link.neighbor ≡ None
      → IsFree 1 xs
  unfolding IsFree
  free_from xs link there none i x e is =
      let place : number ≡ suc i = omega (arith, eqb-true (1 + i) number is) in
      let found : link_at (suc i) xs ≡ Some link =
      subst (λ j. link_at j xs ≡ Some link) place there in
      let same : Some x ≡ Some link = sym e ∙ found in
      ap neighbor_on same ∙ none

-- the neighbor after its Hello
abbrev pub opener : ℕ → ℕ → Neighbor
opener moment from = (enter_exstart moment (fresh from None moment)).neighbor

pub is_heard_of : ANeighborIsHeard
is_heard_of old new number link moment from bytes h outs rest there none hello event =
    let packet : Packet = record { router = from; body = body.Hello h } in
    let n : Neighbor = opener moment from in
    let xs : List Link = change_link number (with_neighbor n) old.area.links in
    let p : EventState = record {
      router = record old { area = record old.area { links = xs } };
      sends = record {
        interface = number;
        content = Content.Describes (initial_description (moment % 2 ^ 32));
      }
          ∷ [];
    } in
    let own : event.after ≡ p =
    event.own.2
    ∙ ap (λ q. after_packet moment number q (start_event moment old))
    (one_packet bytes event.own.0 packet event.own.1 hello.is_text)
    ∙ ap (after_packet moment number packet) (begins moment old rest.nothing_ages)
    ∙ (λ i. cond (hello.is_other i && (true || is_from from (neighbor_at number old.area.links)))
    (on_area (receive_hello old.id moment number from h) (start old)) (start old))
    ∙ ap (λ o. on_area (receive_hello_on old.id moment number from h o) (start old)) there
    ∙ (λ i. on_area (receive_hello_on old.id moment number from h (Some (record link {
      neighbor = none i;
    }))) (start old))
    ∙ (λ i. on_area (λ o. cond (hello.is_accepted i)
    (accept_hello moment number (adjacencies.after_hello moment from (hello.is_naming i) None) o) o)
    (start old)) in
    let free : IsFree number n refl refl 1 old.area.links =
    free_from number n refl refl old.area.links link there none in
    let links : flat_map links_of old.area.links ≡ flat_map links_of xs =
    sym (all_links number n refl refl 1 old.area.links free) in
    let body_same : router_body old.area.links ≡ router_body xs = λ i. lsa.Router (record {
      flags = 2;
      links = links i;
    }) in
    let still : any_exchange_or_loading xs ≡ false =
    all_busy number n refl refl 1 old.area.links free ∙ rest.nobody in
    let end : end_event old moment event.after ≡ ended moment p = ap (end_event old moment) own
    ∙ ends_by old moment p body_same still in
    let here : link_at number xs ≡ Some (cond (number == number) (with_neighbor n link) link) =
    link_changed (λ (e : ℕ × Link). cond (e.0 == number) (with_neighbor n e.1) e.1) number
    old.area.links link there in (
      ap (λ s. shown_at s number) (event.router ∙ ap (λ (q : EventState). q.router) end)
          ∙ ap (λ o. named_neighbor (neighbor_on o)) here
          ∙ (λ i. named_neighbor (cond (itself number i) (with_neighbor n link) link).neighbor),
      event.sent ∙ ap (λ (q : EventState). outs_of old.id old.area.links q.sends) end,
    )
