-- A Link State Update with a new LSA is received twice from a Full neighbor.
use Rattle.std.proofs.Common.{◌≡◌, ℕ, ◌+◌, ◌-◌, ◌<◌, ◌==◌, Bool, true, false, cond, not, ◌&&◌, ◌||◌}
use Rattle.std.proofs.Common.{List, [], ◌∷◌, map, Option, None, Some, refl, sym, ap, ◌∙◌, subst}
use Rattle.std.proofs.Common.{is_some, nat_lt, arith}
use Rattle.std.specs.List.{list_any}
use Rattle.std.specs.Cmp.{int_cmp_total, nat_cmp_total, tied_itself}
use Rattle.std.specs.FinMap as finite
use Rattle.std.specs.Ordering.{is_eq, is_gt, ordering_then}
use Rattle.std.specs.declared.cmp.Ordering.{Ordering}
use Rattle.std.specs.declared.cmp.Ordering.TheVariants.{Less, Equal, Greater}
use Rattle.words.specs.declared.key.Key.{Key}
use Rattle.lsa.specs.Reading.{lsa_in}
use Rattle.lsdb.specs.Copies.{DatabaseCopy, copy_now, has_just_aged_out, install_flooded}
use Rattle.lsdb.specs.Copies.{received_just_now, sent_just_now}
use Rattle.lsdb.specs.Headers.{Lsa, lsa_key}
use Rattle.lsdb.specs.Instances.{instance_of}
use Rattle.lsdb.specs.Keys.{ByKey}
use Rattle.lsdb.specs.Order.{age_at, compare_ages, compare_instances, is_max_age, max_age_diff}
use Rattle.lsdb.proofs.Keys.{keys_total}
use Rattle.packet.specs.declared.model.PacketBody.TheVariants as body
use Rattle.packet.specs.declared.model.Packet.{Packet}
use Rattle.packet.proofs.Whole.{one_packet}
use Rattle.adjacency.specs.Contents.{Content, Step, no_sends}
use Rattle.adjacency.specs.Neighbors.{Neighbor, is_exchange_or_loading, is_exchange_or_later}
use Rattle.adjacency.specs.Requests.{requested_entry, without_request}
use Rattle.adjacency.specs.Retransmissions.{is_entry, add_retransmission, remove_retransmission}
use Rattle.received.specs.Cases.{Case, case_of_readable, first_case, is_wrapping}
use Rattle.received.specs.Flooding.{flood_to, satisfies_request, exceeds_request, request_of}
use Rattle.received.specs.Flooding.{without_satisfied_request}
use Rattle.received.specs.Links.{Area, Link, any_has_retransmission, delay_acknowledgment}
use Rattle.received.specs.Links.{any_exchange_or_loading, link_at, neighbor_at, neighbor_on}
use Rattle.received.specs.AreaStates.{AreaState, step_on, stepped_links, stepping_sends}
use Rattle.received.specs.Updates.{case_at, flood_and_install, goes_on}
pub use Rattle.received.proofs.Marks.{IsStill, changed_by, mark_all, marked_once, tied}
use Rattle.event_rules.specs.declared.model.Out.{Out}
use Rattle.event_rules.specs.Endings.{start_event, end_event, stays_as}
use Rattle.event_rules.specs.Events.{Happens, OwnPart}
use Rattle.event_rules.specs.Hellos.{is_foreign}
use Rattle.event_rules.specs.Originations.{originate_or_flush, should_originate, wanted_body}
use Rattle.event_rules.specs.Packets.{after_lsa, after_lsas, after_packet, after_parsed, case_in}
use Rattle.event_rules.specs.Packets.{neighbor_is_exchange_or_later, after_heard, is_heard}
use Rattle.event_rules.specs.Packing.{outs_of}
use Rattle.event_rules.specs.EventState.{EventState, on_area}
use Rattle.event_rules.specs.Routers.{Occurrence, Router}
use Rattle.agreement_laws.specs.WorkedUpdates.{ANewLsaComesTwice, HasBrought, HasFullNeighbor}
use Rattle.agreement_laws.specs.WorkedUpdates.{IsAtRest, IsUpdateWith, WaitsAt, acknowledges_at_once}
use Rattle.agreement_laws.proofs.WorkedEnds.{begins, ended, ends, got, no_time_passes, not_both_ways}
use Rattle.agreement_laws.proofs.WorkedEnds.{removed_once}
use Rattle.agreement_laws.proofs.WorkedLinks.{acknowledged_seen, flooding_keeps, link_changed}
use Rattle.agreement_laws.proofs.WorkedLinks.{same_rest, seen, stepped_seen}

pub chosen : {A : Type 0} (b : Bool) (x : A) → cond b x x ≡ x
chosen true x = refl
chosen false x = refl

-- ---- maps by key

pub inserted : {X : Type 0} (m : ByKey X) (k : Key) (x : X) → finite.get (finite.insert m k x) k
    ≡ Some x
inserted m k x = finite.get-insert keys_total m k x k
    ∙ ap (λ (o : Ordering). cond (is_eq o) (Some x) (finite.get m k)) (tied_itself keys_total k)

pub taken_off : {X : Type 0} (m : ByKey X) (k : Key) → finite.get (finite.remove m k) k ≡ None
taken_off m k = finite.get-remove keys_total m k k
    ∙ ap (λ (o : Ordering). cond (is_eq o) None (finite.get m k)) (tied_itself keys_total k)

-- ---- an instance and its copy of the same second

pub same_age : (age moment : ℕ) → age < 3600 → age_at age moment moment ≡ age
same_age age moment young = omega (arith, young)

pub is_young : (age : ℕ) → age < 3600 → is_max_age age ≡ false
is_young age young = grind (arith, young)

pub ages_itself : (a : ℕ) → compare_ages a a ≡ Equal
ages_itself a =
    (λ i. cond (not_both_ways (is_max_age a) i) Greater
    (cond (not_both_ways (is_max_age a) i) Less
    (cond (nat_lt max_age_diff ((a - a) + (a - a))) (tied_itself nat_cmp_total a i) Equal)))
    ∙ chosen (nat_lt max_age_diff ((a - a) + (a - a))) Equal

pub alike : (lsa : Lsa) (c : DatabaseCopy) (moment : ℕ) → c.lsa ≡ lsa → c.stored ≡ moment
    → lsa.header.age < 3600 → compare_instances (instance_of lsa.header) (copy_now moment c) ≡ Equal
alike lsa c moment same now young =
    (λ i. compare_instances (instance_of lsa.header) (record {
      sequence = (same i).header.sequence;
      checksum = (same i).header.checksum;
      age = age_at (same i).header.age (now i) moment;
    }))
    ∙ (λ i. ordering_then (tied_itself int_cmp_total lsa.header.sequence i)
    (ordering_then (tied_itself nat_cmp_total lsa.header.checksum i)
    (compare_ages lsa.header.age (same_age lsa.header.age moment young i))))
    ∙ ages_itself lsa.header.age

-- ---- one Link State Update with one LSA

pub after_one : (moment number : ℕ) (bytes_of_lsa : List ℕ) (lsa : Lsa) (p : EventState)
    → lsa_in bytes_of_lsa
    ≡ Some lsa → after_lsas moment number (bytes_of_lsa ∷ []) p
    ≡ after_lsa (case_at moment number lsa p.router.area) moment number lsa p
after_one moment number bytes_of_lsa lsa p e =
    chosen (goes_on (case_in moment number (lsa_in bytes_of_lsa) p))
    (after_parsed moment number (lsa_in bytes_of_lsa) p)
    ∙ ap (λ o. after_parsed moment number o p) e

pub itself : (n : ℕ) → (n == n) ≡ true
itself n = grind arith

pub update_heard : (moment number : ℕ) (p : EventState) (n : Neighbor) (texts : List (List ℕ))
    → neighbor_at number p.router.area.links ≡ Some n → is_foreign p.router.id n.router ≡ true
    → is_exchange_or_later n.state ≡ true
    → after_packet moment number (record {
      router = n.router;
      body = body.Update texts;
    }) p ≡ after_lsas moment number texts p
update_heard moment number p n texts there other part =
    let packet : Packet = record { router = n.router; body = body.Update texts } in
    ap (λ o. cond (is_heard p.router.id packet o)
    (after_heard moment number n.router (neighbor_is_exchange_or_later o) packet.body p) p) there
    ∙ (λ i. cond (other i && (false || itself n.router i))
    (cond (part i) (after_lsas moment number texts p) p) p)

abbrev pub start : Router → EventState
start r = record { router = r; sends = [] }

pub own_part : (r : Router) (moment number : ℕ) (bytes : List ℕ) (lsa : Lsa) (n : Neighbor)
    (after : EventState) → list_any (λ e. has_just_aged_out r.moment moment e.1)
    (finite.entries r.area.database) ≡ false → neighbor_at number r.area.links ≡ Some n
    → is_foreign r.id n.router ≡ true → is_exchange_or_later n.state ≡ true
    → IsUpdateWith bytes n.router lsa
    → OwnPart moment (Occurrence.Packet number bytes) (start_event moment r) after
    → after ≡ after_lsa (case_at moment number lsa r.area) moment number lsa
    (start r)
own_part r moment number bytes lsa n after nothing there other part text own =
    let packet : Packet = record {
      router = n.router;
      body =
          body.Update (text.bytes_of_lsa ∷ []);
    } in
    own.2
    ∙ ap (λ q. after_packet moment number q (start_event moment r))
    (one_packet bytes own.0 packet own.1 text.is_text)
    ∙ ap (after_packet moment number packet) (begins moment r nothing)
    ∙ update_heard moment number (start r) n (text.bytes_of_lsa ∷ []) there other part
    ∙ after_one moment number text.bytes_of_lsa lsa (start r) text.is_read

-- ---- the first

pub new_case : (moment number : ℕ) (lsa : Lsa) (a : Area) → finite.get a.database (lsa_key lsa)
    ≡ None → lsa.header.age < 3600 → case_at moment number lsa a ≡ Case.Newer
new_case moment number lsa a none young =
    ap (λ c. case_of_readable moment c (neighbor_at number a.links)
    (any_exchange_or_loading a.links) lsa) none
    ∙ ap (λ b. cond (b && true && not (any_exchange_or_loading a.links)) Case.NothingToFlush
    Case.Newer) (is_young lsa.header.age young)

pub sender_step : (moment number : ℕ) (lsa : Lsa) (link : Link) (n : Neighbor)
    → is_exchange_or_later n.state ≡ true → is_exchange_or_loading n.state ≡ false
    → flood_to moment (Some number) lsa number link n
    ≡ no_sends (remove_retransmission (lsa_key lsa) n)
sender_step moment number lsa link n part rest =
    let got_it : Step = record {
      neighbor = add_retransmission moment lsa.header (without_satisfied_request moment lsa n);
      sends = Content.Updates lsa ∷ [];
    } in
    let same : without_satisfied_request moment lsa n ≡ n =
    ap (λ b. cond (satisfies_request moment lsa (cond b (requested_entry n (lsa_key lsa)) None))
    (without_request (lsa_key lsa) n) n) rest in
    λ i. cond (part i) (cond (not (itself number i) && exceeds_request moment lsa
    (request_of n lsa)) got_it
    (no_sends (remove_retransmission (lsa_key lsa) (same i)))) (no_sends n)

abbrev first : Router → ℕ → ℕ → Lsa → AreaState
first r moment number lsa = flood_and_install moment number lsa (record {
  area = r.area;
  sends = [];
})

abbrev second : Router → ℕ → ℕ → Lsa → Router
second r moment number lsa = (ended moment
    (on_area (flood_and_install moment number lsa) (start r))).router

first_seen : (r : Router) (moment number : ℕ) (lsa : Lsa)
    → map seen (first r moment number lsa).area.links ≡ map seen r.area.links
first_seen r moment number lsa =
    acknowledged_seen number lsa.header
    (stepped_links (flood_to moment (Some number) lsa) r.area.links)
    ∙ stepped_seen (flood_to moment (Some number) lsa) (flooding_keeps moment (Some number) lsa)
    r.area.links

abbrev pub sender_after : Lsa → Link → Neighbor → Link
sender_after lsa link n = delay_acknowledgment lsa.header (record link {
  neighbor = Some (remove_retransmission (lsa_key lsa) n);
})

pub sender_there : (r : Router) (moment number : ℕ) (lsa : Lsa) (link : Link) (n : Neighbor)
    → HasFullNeighbor r number link n → link_at number (first r moment number lsa).area.links
    ≡ Some (sender_after lsa link n)
sender_there r moment number lsa link n from =
    let f = flood_to moment (Some number) lsa in
    let stepped_link : Link = record link { neighbor = step_on (f number link) link.neighbor } in
    let one : link_at number (stepped_links f r.area.links) ≡ Some stepped_link =
    link_changed (λ (e : ℕ × Link). record e.1 { neighbor = step_on (f e.0 e.1) e.1.neighbor })
    number r.area.links link from.link_there in
    let two : step_on (f number link) link.neighbor ≡ Some (remove_retransmission (lsa_key lsa) n) =
    ap (step_on (f number link)) from.neighbor_there
    ∙ ap (λ (s : Step). Some s.neighbor)
    (sender_step moment number lsa link n (ap is_exchange_or_later from.is_full)
    (ap is_exchange_or_loading from.is_full)) in
    link_changed (λ (e : ℕ × Link). cond (e.0 == number) (delay_acknowledgment lsa.header e.1) e.1)
    number (stepped_links f r.area.links) stepped_link one
    ∙ (λ i. Some (cond (itself number i) (delay_acknowledgment lsa.header (record link {
      neighbor = two i;
    })) (record link { neighbor = two i })))

abbrev pub brought : Lsa → ℕ → Option ℕ → DatabaseCopy
brought lsa moment sent = record {
  lsa = lsa;
  stored = moment;
  received = Some moment;
  sent = sent;
}

pub stays_young : (moment : ℕ) (w : Bool) (lsa : Lsa) (c : DatabaseCopy) → c.lsa ≡ lsa → c.stored
    ≡ moment → lsa.header.age < 3600 → stays_as moment w (Some c) ≡ true
stays_young moment w lsa c same now young =
    (λ i. not (is_max_age (age_at (same i).header.age (now i) moment)) || w)
    ∙ (λ i. not (is_max_age (same_age lsa.header.age moment young i)) || w)
    ∙ (λ i. not (is_young lsa.header.age young i) || w)

has_brought : (r : Router) (moment number : ℕ) (lsa : Lsa) → lsa.header.age < 3600
    → HasBrought (second r moment number lsa) moment lsa
has_brought r moment number lsa young =
    let o : AreaState = first r moment number lsa in
    let key : Key = lsa_key lsa in
    let still : IsStill o.area.database key (brought lsa moment None) =
    mark_all moment (stepping_sends (flood_to moment (Some number) lsa) r.area.links) key
    (brought lsa moment None) (install_flooded moment lsa r.area.database)
    (inserted r.area.database key (brought lsa moment None)) in (
      still.0,
      got moment o key
          ∙ ap (λ c. cond (stays_as moment (any_has_retransmission key o.area.links) c) c None)
          still.1
          ∙ ap (λ b. cond b (Some (brought lsa moment still.0)) None)
          (stays_young moment (any_has_retransmission key o.area.links) lsa
          (brought lsa moment still.0) refl refl young),
    )

-- ---- the second

same_case : (moment number : ℕ) (lsa : Lsa) (a : Area) (sent : Option ℕ) (n : Neighbor)
    → finite.get a.database (lsa_key lsa) ≡ Some (brought lsa moment sent)
    → neighbor_at number a.links ≡ Some n → requested_entry n (lsa_key lsa) ≡ None
    → finite.get n.retransmissions (lsa_key lsa) ≡ None → lsa.header.age < 3600
    → case_at moment number lsa a ≡ Case.Duplicate
same_case moment number lsa a sent n there from none entry young =
    let c : DatabaseCopy = brought lsa moment sent in
    let busy : Bool = any_exchange_or_loading a.links in
    let equal : compare_instances (instance_of lsa.header) (copy_now moment c) ≡ Equal =
    alike lsa c moment refl refl young in
    (λ i. case_of_readable moment (there i) (from i) busy lsa)
    ∙ (λ i. first_case (
    (is_young lsa.header.age young i && false && not busy, Case.NothingToFlush)
    ∷ (true && is_gt (equal i) && received_just_now moment (Some c), Case.TooSoon)
    ∷ (is_gt (equal i), Case.Newer)
    ∷ (is_some (none i), Case.BadRequest)
    ∷ (is_eq (equal i) && is_entry moment lsa.header (entry i), Case.ImpliedAcknowledgment)
    ∷ (is_eq (equal i), Case.Duplicate)
    ∷ (is_wrapping moment (Some c), Case.SequenceWraps)
    ∷ (sent_just_now moment (Some c), Case.SentJustNow)
    ∷ []) Case.Older)

abbrev Twice : Router → Router → ℕ → ℕ → Lsa → List Out → Type 0
Twice middle new moment number lsa more =
    HasBrought middle moment lsa × WaitsAt middle number lsa
    × (more ≡ outs_of middle.id middle.area.links (acknowledges_at_once number lsa))
    × (new ≡ middle)

again : (r new : Router) (moment number : ℕ) (bytes : List ℕ) (lsa : Lsa) (link : Link)
    (n : Neighbor) (more : List Out) → IsAtRest r moment → HasFullNeighbor r number link n
    → requested_entry n (lsa_key lsa) ≡ None → IsUpdateWith bytes n.router lsa
    → lsa.header.age < 3600 → Happens (second r moment number lsa) moment
    (Occurrence.Packet number bytes) more new
    → Twice (second r moment number lsa) new moment number lsa more
again r new moment number bytes lsa link n more rest from none text young event =
    let m : Router = second r moment number lsa in
    let o : AreaState = first r moment number lsa in
    let key : Key = lsa_key lsa in
    let there : HasBrought m moment lsa = has_brought r moment number lsa young in
    let link_there : link_at number m.area.links ≡ Some (sender_after lsa link n) =
    sender_there r moment number lsa link n from in
    let still : HasFullNeighbor m number (sender_after lsa link n) (remove_retransmission key n) =
    record {
      link_there = link_there;
      neighbor_there = refl;
      is_other = from.is_other;
      is_full = from.is_full;
    } in
    let quiet_still : IsAtRest m moment =
    record {
      nobody = same_rest m.area.links r.area.links (first_seen r moment number lsa) ∙ rest.nobody;
      nothing_ages = no_time_passes moment (finite.entries m.area.database);
    } in
    let case : case_at moment number lsa m.area ≡ Case.Duplicate =
    same_case moment number lsa m.area there.0 (remove_retransmission key n) there.1
    (ap neighbor_on link_there) none (taken_off n.retransmissions key) young in
    let said : EventState = record { router = m; sends = acknowledges_at_once number lsa } in
    let own : event.after ≡ said =
    own_part m moment number bytes lsa (remove_retransmission key n) event.after
    quiet_still.nothing_ages (ap neighbor_on still.link_there) still.is_other
    (ap is_exchange_or_later still.is_full) text event.own
    ∙ ap (λ c. after_lsa c moment number lsa (start m)) case in
    let end : end_event m moment event.after ≡ ended moment said = ap (end_event m moment) own
    ∙ ends m moment said refl quiet_still.nobody in
    let back : (ended moment said).router ≡ m = λ i. record m {
      area = record m.area { database = removed_once moment o i };
    } in (
      there,
      (sender_after lsa link n, link_there, inserted link.acknowledgments key lsa.header),
      event.sent ∙ ap (λ (q : EventState). outs_of m.id m.area.links q.sends) end,
      event.router ∙ ap (λ (q : EventState). q.router) end ∙ back,
    )

pub comes_twice : ANewLsaComesTwice
comes_twice old middle new moment number bytes lsa link n outs more rest from none text absent young
    other one two =
    let p : EventState = on_area (flood_and_install moment number lsa) (start old) in
    let own : one.after ≡ p =
    own_part old moment number bytes lsa n one.after rest.nothing_ages
    (ap neighbor_on from.link_there ∙ from.neighbor_there) from.is_other
    (ap is_exchange_or_later from.is_full) text one.own
    ∙ ap (λ c. after_lsa c moment number lsa (start old))
    (new_case moment number lsa old.area absent young)
    ∙ ap (λ b. cond b (originate_or_flush (should_originate (wanted_body p.router (lsa_key lsa)))
    moment
    (lsa_key lsa) p) p) other in
    let is : middle ≡ second old moment number lsa =
    one.router ∙ ap (λ q. (end_event old moment q).router) own
    ∙ ap (λ (q : EventState). q.router)
    (ends old moment p (first_seen old moment number lsa) rest.nobody) in
    subst (λ r. Twice r new moment number lsa more) (sym is)
    (again old new moment number bytes lsa link n more rest from none text young
    (subst (λ r. Happens r moment (Occurrence.Packet number bytes) more new) is two))
