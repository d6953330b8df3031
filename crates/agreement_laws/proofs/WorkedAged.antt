-- An LSA at MaxAge without a database copy is received from a Full neighbor.
use Rattle.std.proofs.Common.{◌≡◌, ℕ, zero, suc, ◌+◌, ◌<◌, ◌==◌, Bool, true, false, cond, not, ◌&&◌}
use Rattle.std.proofs.Common.{◌||◌, List, [], ◌∷◌, Option, None, Some, refl, sym, ap, subst, ◌∙◌}
use Rattle.std.proofs.Common.{arith, slice_get}
use Rattle.std.specs.List.{Contains, enumerate_from, flat_map}
use Rattle.std.specs.FinMap as finite
use Rattle.std.proofs.lemmas.List.Elements.{Contains-append_left, Contains-append_right}
use Rattle.std.proofs.Math.Bool.{or-true}
use Rattle.std.proofs.lemmas.Option.{none-some}
use Rattle.lsdb.specs.Copies.{install_flooded}
use Rattle.lsdb.specs.Headers.{Header, Lsa, lsa_with_age, lsa_key}
use Rattle.lsdb.specs.Order.{is_max_age}
use Rattle.adjacency.specs.Contents.{Content, Step, no_sends}
use Rattle.adjacency.specs.Neighbors.{Neighbor, is_exchange_or_loading, is_exchange_or_later}
use Rattle.adjacency.specs.Retransmissions.{add_retransmission, remove_retransmission}
use Rattle.received.specs.Cases.{Case, case_of_readable}
use Rattle.received.specs.Flooding.{flood_to, is_to_be_sent, exceeds_request, request_of}
use Rattle.received.specs.Flooding.{without_satisfied_request}
use Rattle.received.specs.Links.{Area, Link, any_has_retransmission, delay_acknowledgment}
use Rattle.received.specs.Links.{any_exchange_or_loading, change_link, link_at, neighbor_at}
use Rattle.received.specs.Links.{neighbor_on, neighbor_is_exchange_or_loading}
use Rattle.received.specs.AreaStates.{Send, sends_at, sent_on, step_on, stepped_links}
use Rattle.received.specs.AreaStates.{stepping_sends}
use Rattle.received.specs.Updates.{case_at, flood_and_install}
use Rattle.received.proofs.Flooded.{replaces_older}
use Rattle.event_rules.specs.Endings.{end_event, stays_as}
use Rattle.event_rules.specs.Originations.{originate_or_flush, should_originate, wanted_body}
use Rattle.event_rules.specs.Packets.{after_lsa}
use Rattle.event_rules.specs.Packing.{outs_of}
use Rattle.event_rules.specs.EventState.{EventState, on_area}
use Rattle.event_rules.specs.Routers.{Router}
use Rattle.agreement_laws.specs.WorkedAged.{AnAgedLsaComes, IsLoadingWithout, IsOwedTo}
use Rattle.agreement_laws.specs.WorkedUpdates.{HasBrought, WaitsAt, acknowledges_at_once}
use Rattle.agreement_laws.proofs.WorkedEnds.{ended, ends, got}
use Rattle.agreement_laws.proofs.WorkedLinks.{link_changed}
use Rattle.agreement_laws.proofs.WorkedUpdates.{IsStill, brought, inserted, mark_all, own_part}
use Rattle.agreement_laws.proofs.WorkedUpdates.{sender_after, sender_there, start}

-- ---- the case of the LSA

-- no neighbor is in Exchange or Loading
nothing_to_flush : (moment number : ℕ) (lsa : Lsa) (a : Area) → finite.get a.database (lsa_key lsa)
    ≡ None → lsa.header.age ≡ 3600 → any_exchange_or_loading a.links ≡ false
    → case_at moment number lsa a ≡ Case.NothingToFlush
nothing_to_flush moment number lsa a none aged nobody =
    let sender : Option Neighbor = neighbor_at number a.links in
    (λ i. case_of_readable moment (none i) sender (nobody i) lsa)
    ∙ ap (λ age. case_of_readable moment None sender false (lsa_with_age age lsa)) aged

is_installed : (b : Bool) → cond (b && true && not true) Case.NothingToFlush Case.Newer ≡ Case.Newer
is_installed true = refl
is_installed false = refl

-- some neighbor is
newer : (moment number : ℕ) (lsa : Lsa) (a : Area) → finite.get a.database (lsa_key lsa) ≡ None
    → any_exchange_or_loading a.links ≡ true → case_at moment number lsa a ≡ Case.Newer
newer moment number lsa a none busy =
    (λ i. case_of_readable moment (none i) (neighbor_at number a.links) (busy i) lsa)
    ∙ is_installed (is_max_age lsa.header.age)

-- ---- one of the links

busy_at : (i : ℕ) (xs : List Link) (x : Link) → slice_get xs i ≡ Some x
    → neighbor_is_exchange_or_loading x.neighbor ≡ true → any_exchange_or_loading xs ≡ true
busy_at i [] x e is = absurd (none-some x e)
busy_at zero (y ∷ xs) x e is =
    let same : y ≡ x = cc in
    (λ j. neighbor_is_exchange_or_loading (same j).neighbor || any_exchange_or_loading xs)
    ∙ (λ j. is j || any_exchange_or_loading xs)
busy_at (suc i) (y ∷ xs) x e is = ap (λ b. neighbor_is_exchange_or_loading y.neighbor || b)
    (busy_at i xs x e is) ∙ or-true (neighbor_is_exchange_or_loading y.neighbor)

busy_on : (number : ℕ) (xs : List Link) (x : Link) → link_at number xs ≡ Some x
    → neighbor_is_exchange_or_loading x.neighbor ≡ true → any_exchange_or_loading xs ≡ true
busy_on zero xs x e is = absurd (none-some x e)
busy_on (suc i) xs x e is = busy_at i xs x e is

module _ (g : (ℕ × Link) → List Send) where
  sent_at : (k i : ℕ) (xs : List Link) (x : Link) (s : Send) → slice_get xs i ≡ Some x
      → Contains (g (k + i, x)) s → Contains (flat_map g (enumerate_from k xs)) s
  sent_at k i [] x s e c = absurd (none-some x e)
  sent_at k zero (y ∷ xs) x s e c =
      let same : x ≡ y = cc in
      let place : k + 0 ≡ k = omega arith in
      Contains-append_left (g (k, y)) (flat_map g (enumerate_from (k + 1) xs)) s
      (subst (λ (l : Link). Contains (g (k, l)) s) same
      (subst (λ j. Contains (g (j, x)) s) place c))
  sent_at k (suc i) (y ∷ xs) x s e c =
      let place : k + suc i ≡ k + 1 + i = omega arith in
      Contains-append_right (g (k, y)) (flat_map g (enumerate_from (k + 1) xs)) s
      (sent_at (k + 1) i xs x s e (subst (λ j. Contains (g (j, x)) s) place c))

  sent_on_link : (number : ℕ) (xs : List Link) (x : Link) (s : Send) → link_at number xs ≡ Some x
      → Contains (g (number, x)) s → Contains (flat_map g (enumerate_from 1 xs)) s
  sent_on_link zero xs x s e c = absurd (none-some x e)
  sent_on_link (suc i) xs x s e c =
      let place : suc i ≡ 1 + i = omega arith in
      sent_at 1 i xs x s e (subst (λ j. Contains (g (j, x)) s) place c)

alone : (s : Send) → Contains (s ∷ []) s
alone s = let first : 0 < 1 = omega arith in (0, first, refl)

-- ---- the neighbor in Loading

module _ (moment number other : ℕ) (lsa : Lsa) (another : Link) (m : Neighbor) (r : Router)
    (there : IsLoadingWithout r other another m lsa) (apart : (number == other) ≡ false) where
  asked_not : request_of m lsa ≡ None
  asked_not = λ i. cond (is_exchange_or_loading (there.is_loading i)) (there.not_asked i) None

  gets_it : is_to_be_sent moment (Some number) other lsa m ≡ true
  gets_it = λ i. not (apart i) && exceeds_request moment lsa (asked_not i)

  sends_it : (flood_to moment (Some number) lsa other another m).sends ≡ Content.Updates lsa ∷ []
  sends_it =
      let got_it : Step = record {
        neighbor = add_retransmission moment lsa.header (without_satisfied_request moment lsa m);
        sends = Content.Updates lsa ∷ [];
      } in
      let not_got : Step = no_sends (remove_retransmission (lsa_key lsa)
      (without_satisfied_request moment lsa m)) in
      λ i. (cond (is_exchange_or_later (there.is_loading i)) (cond (gets_it i) got_it not_got)
      (no_sends m)).sends

  is_sent : Contains (stepping_sends (flood_to moment (Some number) lsa) r.area.links) (record {
    interface = other;
    content = Content.Updates lsa;
  })
  is_sent =
      let f = flood_to moment (Some number) lsa in
      let g : (ℕ × Link) → List Send = λ e. sends_at e.0 (sent_on (f e.0 e.1) e.1.neighbor) in
      let one : record {
        interface = other;
        content = Content.Updates lsa;
      } ∷ [] ≡ g (other, another) =
      sym (ap (λ o. sends_at other (sent_on (f other another) o)) there.neighbor_there
      ∙ ap (sends_at other) sends_it) in
      sent_on_link g other r.area.links another (record {
        interface = other;
        content = Content.Updates lsa;
      }) there.link_there
      (subst (λ (ss : List Send). Contains ss (record {
        interface = other;
        content = Content.Updates lsa;
      })) one (alone (record {
        interface = other;
        content = Content.Updates lsa;
      })))

  neighbor_of : (b : Bool) (h : Header) (l : Link) → (cond b (delay_acknowledgment h l) l).neighbor
      ≡ l.neighbor
  neighbor_of true h l = refl
  neighbor_of false h l = refl

  is_on_some_list : IsOwedTo (record r {
    area = (flood_and_install moment number lsa (record {
      area = r.area;
      sends = [];
    })).area;
  }) moment other lsa
  is_on_some_list =
      let f = flood_to moment (Some number) lsa in
      let stepped_link : Link = record another {
        neighbor = step_on (f other another) another.neighbor;
      } in
      let one : link_at other (stepped_links f r.area.links) ≡ Some stepped_link =
      link_changed (λ (e : ℕ × Link). record e.1 { neighbor = step_on (f e.0 e.1) e.1.neighbor })
      other r.area.links another there.link_there in
      let two : link_at other (change_link number (delay_acknowledgment lsa.header)
      (stepped_links f r.area.links))
      ≡ Some (cond (other == number) (delay_acknowledgment lsa.header stepped_link)
      stepped_link) =
      link_changed (λ (e : ℕ × Link). cond (e.0 == number) (delay_acknowledgment lsa.header e.1)
      e.1)
      other (stepped_links f r.area.links) stepped_link one in (
        (f other another m).neighbor,
        ap neighbor_on two ∙ neighbor_of (other == number) lsa.header stepped_link
            ∙ ap (step_on (f other another)) there.neighbor_there,
        replaces_older moment (Some number) lsa other another m
            (ap is_exchange_or_later there.is_loading) ∙ ap (λ b. cond b (Some (record {
              header = lsa.header;
              at = moment;
            })) None) gets_it,
      )

-- ---- the two events

pub aged_lsa_comes : AnAgedLsaComes
aged_lsa_comes = record {
  all_full = λ old new moment number bytes lsa link n outs rest from text none aged event.
      let said : EventState = record { router = old; sends = acknowledges_at_once number lsa } in
      let own : event.after ≡ said =
      own_part old moment number bytes lsa n event.after rest.nothing_ages
      (ap neighbor_on from.link_there ∙ from.neighbor_there) from.is_other
      (ap is_exchange_or_later from.is_full) text event.own
      ∙ ap (λ c. after_lsa c moment number lsa (start old))
      (nothing_to_flush moment number lsa old.area none aged rest.nobody) in
      let end : end_event old moment event.after ≡ ended moment said = ap (end_event old moment) own
      ∙ ends old moment said refl rest.nobody in
      let is : new ≡ (ended moment said).router = event.router
      ∙ ap (λ (q : EventState). q.router) end in (
        event.sent ∙ ap (λ (q : EventState). outs_of old.id old.area.links q.sends) end,
        ap (λ (r : Router). finite.get r.area.database (lsa_key lsa)) is
            ∙ got moment (record { area = old.area; sends = said.sends }) (lsa_key lsa)
            ∙ ap (λ c. cond (stays_as moment (any_has_retransmission (lsa_key lsa) old.area.links)
            c) c None) none,
        ap (λ (r : Router). r.area.links) is,
      );
  one_loading = λ old new moment number other bytes lsa link n another m outs nothing_ages from text
      there apart none foreign event.
      let p : EventState = on_area (flood_and_install moment number lsa) (start old) in
      let busy : any_exchange_or_loading old.area.links ≡ true =
      busy_on other old.area.links another there.link_there
      (ap neighbor_is_exchange_or_loading there.neighbor_there
      ∙ ap is_exchange_or_loading there.is_loading) in
      let own : p ≡ event.after =
      sym (own_part old moment number bytes lsa n event.after nothing_ages
      (ap neighbor_on from.link_there ∙ from.neighbor_there) from.is_other
      (ap is_exchange_or_later from.is_full) text event.own
      ∙ ap (λ c. after_lsa c moment number lsa (start old))
      (newer moment number lsa old.area none busy)
      ∙ ap (λ b. cond b (originate_or_flush (should_originate (wanted_body p.router (lsa_key lsa)))
      moment
      (lsa_key lsa) p) p) foreign) in
      let still : IsStill p.router.area.database (lsa_key lsa) (brought lsa moment None) =
      mark_all moment (stepping_sends (flood_to moment (Some number) lsa) old.area.links)
      (lsa_key lsa) (brought lsa moment None) (install_flooded moment lsa old.area.database)
      (inserted old.area.database (lsa_key lsa) (brought lsa moment None)) in
      subst (λ (q : EventState). HasBrought q.router moment lsa × WaitsAt q.router number lsa
      × IsOwedTo q.router moment other lsa × Contains q.sends (record {
        interface = other;
        content = Content.Updates lsa;
      })) own (
        still,
        (
          sender_after lsa link n,
          sender_there old moment number lsa link n from,
          inserted link.acknowledgments (lsa_key lsa) lsa.header,
        ),
        is_on_some_list moment number other lsa another m old there apart,
        is_sent moment number other lsa another m old there apart,
      );
}
