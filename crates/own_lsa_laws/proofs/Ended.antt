-- An event's own part, and the end that all events share, keep the invariant of the router's own
-- copies.
use Rattle.std.proofs.Common.{◌≡◌, ℕ, Bool, true, false, cond, not, ◌&&◌, ◌||◌, ◌⊎◌, inl, inr, List}
use Rattle.std.proofs.Common.{[], ◌∷◌, map, Option, None, Some, is_some, refl, sym, ap, subst, ◌∙◌}
use Rattle.std.proofs.Common.{arith}
use Rattle.std.specs.Prelude.{nat_le}
use Rattle.std.specs.List.{filter, list_all, list_any}
use Rattle.std.specs.FinMap as finite
use Rattle.std.specs.FinSet as set
use Rattle.std.proofs.lemmas.Bool.{or_left, or_right, both_ways}
use Rattle.words.specs.Constants.{ls_infinity}
use Rattle.words.specs.Prefixes.{Network}
use Rattle.words.specs.declared.key.Key.{Key}
use Rattle.words.specs.declared.route.External.{External}
use Rattle.lsa.specs.Text.{body_text}
use Rattle.lsa.specs.declared.body.LsaBody.{LsaBody}
use Rattle.lsdb.specs.Copies.{DatabaseCopy, age_prematurely, is_aged_out}
use Rattle.lsdb.specs.Headers.{Lsa, lsa_with_age}
use Rattle.lsdb.specs.Keys.{ByKey, KeySet, same_key}
use Rattle.lsdb.proofs.Keys.{keys_total}
use Rattle.packet.specs.declared.model.PacketBody.{PacketBody}
use Rattle.packet.specs.declared.model.PacketBody.TheVariants as body
use Rattle.packet.specs.declared.model.Hello.{Hello}
use Rattle.packet.specs.declared.model.Packet.{Packet}
use Rattle.adjacency.specs.Adjacencies as adjacencies
use Rattle.adjacency.specs.Contents.{Content, no_sends}
use Rattle.adjacency.specs.Descriptions.{after_description}
use Rattle.adjacency.specs.Requests.{request_next}
use Rattle.adjacency.specs.Retransmissions.{after_acknowledgment}
use Rattle.adjacency.proofs.Kept.{chosen}
use Rattle.adjacency.proofs.Maps.{AllIn, IfThere, retained_in}
use Rattle.received.specs.Flooding.{flood_to}
use Rattle.received.specs.Links.{Link, any_exchange_or_loading, link_at, neighbor_at}
use Rattle.received.specs.AreaStates.{AreaState, on_database, on_links, one_neighbor, only_at}
use Rattle.received.specs.AreaStates.{sends_at}
use Rattle.received.specs.AreaStates.{sending, stepping_sends, sends_of}
use Rattle.event_rules.specs.Commands.{after_redistribute, after_withdraw, announce, announce_as}
use Rattle.event_rules.specs.Commands.{answered_external, end_want, is_announced_as, is_for}
use Rattle.event_rules.specs.Commands.{unannounce}
use Rattle.event_rules.specs.Endings.{copy_has_body, end_event, originate_router_lsa}
use Rattle.event_rules.specs.Endings.{postpone_router_lsa, is_at, is_current, link_loading_done}
use Rattle.event_rules.specs.Endings.{links_differ, loading_done, remove_aged, request_all, stays}
use Rattle.event_rules.specs.EventState.{EventState, flood_from_nobody, on_area, on_router}
use Rattle.event_rules.specs.Hellos.{accepts, names}
use Rattle.event_rules.specs.Originations.{announced_body, due_keys, external_body, external_key}
use Rattle.event_rules.specs.Originations.{flush, flush_copy, forget_originations, has_max_sequence}
use Rattle.event_rules.specs.Originations.{has_room, is_due, may_originate, originate}
use Rattle.event_rules.specs.Originations.{originate_anyway, originate_body, originate_due}
use Rattle.event_rules.specs.Originations.{originate_or_postpone, router_body, postpone, router_key}
use Rattle.event_rules.specs.Originations.{wanted_body, wanted_keys}
use Rattle.event_rules.specs.Packets.{accept_hello, after_packet, after_heard, is_heard}
use Rattle.event_rules.specs.Packets.{receive_hello_on, neighbor_is_exchange_or_later, is_there}
use Rattle.event_rules.specs.Packets.{receive_request, requested_lsas}
use Rattle.event_rules.specs.Routers.{Router}
use Rattle.event_rules.specs.Ticks.{acknowledgments_on, after_tick, again, send_acknowledgments}
use Rattle.event_rules.specs.Ticks.{expire_timers, hello_sent_on, send_all_again}
use Rattle.event_rules.specs.Ticks.{with_hello_sent, without_acknowledgments}
use Rattle.event_rules.proofs.Walk.{outcome}
use Rattle.invariants.proofs.Limits.{one_less, one_more, tied_key}
use Rattle.invariants.proofs.Retransmitted.{marks}
use Rattle.own_lsa_laws.proofs.Agreeing.{never_differs, once, text_of_same, undiffering}
use Rattle.own_lsa_laws.proofs.Faces.{StaysFaced, again_so, asks_so, body_faces, each_faces, faces}
use Rattle.own_lsa_laws.proofs.Faces.{mapped_faces, same_faces}
use Rattle.own_lsa_laws.proofs.Parts.{FitsAt, InProgress, Tells, at_other, at_same, excused_fit}
use Rattle.own_lsa_laws.proofs.Parts.{excusing, flush_kept, full, lsas_kept, not_and_so}
use Rattle.own_lsa_laws.proofs.Parts.{nothing_changes, or_wait_kept, originated_now, others_fit}
use Rattle.own_lsa_laws.proofs.Parts.{roomy, sent_kept, some_kept, still_tells, wait_kept}
use Rattle.own_lsa_laws.proofs.Parts.{waits_there}
use Rattle.own_lsa_laws.proofs.Standing.{Fits, IsWanted, Standing, Terms, aged_at, all_so, at_copy}
use Rattle.own_lsa_laws.proofs.Standing.{closed_at, flushed_age, marked, recast, same_itself, wants}

-- the state after a change of links and database
abbrev pub with_outcome : EventState → AreaState → EventState
with_outcome p o = record { router = record p.router { area = o.area }; sends = o.sends }

module _ (moment : ℕ) (t : Terms) where
  abbrev So : EventState → Type 0
  So = InProgress moment (full t)

  -- ---- packets

  hello_kept : (number from : ℕ) (h : Hello) (found : Option Link) (p : EventState) → So p
      → So (on_area (receive_hello_on p.router.id moment number from h found) p)
  hello_kept number from h None p so = record {
    externals = so.externals;
    earlier = so.earlier;
    copies = so.copies;
  }
  hello_kept number from h (Some link) p so =
      chosen (λ (q : AreaState). So (with_outcome p q)) (accepts p.router.id from h link)
      (accept_hello moment number (adjacencies.after_hello moment from (names p.router.id h)
      link.neighbor) (outcome p)) (outcome p)
      (λ is. record {
        externals = so.externals;
        earlier = so.earlier;
        copies = sent_kept moment (full t) p.router
            (sends_at number (adjacencies.after_hello moment from (names p.router.id h)
            link.neighbor).sends) p.router.area.database so.copies;
      })
      (λ is. record { externals = so.externals; earlier = so.earlier; copies = so.copies })

  request_kept : (number : ℕ) (keys : List Key) (p : EventState) → So p
      → So (on_area (receive_request moment number keys) p)
  request_kept number keys p so =
      chosen (λ (q : AreaState). So (with_outcome p q))
      (list_all (is_there p.router.area.database) keys)
      (sending moment (sends_at number
      (map Content.Updates (requested_lsas moment p.router.area.database keys))) (outcome p))
      (one_neighbor moment number (adjacencies.mismatch_step moment) (outcome p))
      (λ is. record {
        externals = so.externals;
        earlier = so.earlier;
        copies = sent_kept moment (full t) p.router
            (sends_at number (map Content.Updates
            (requested_lsas moment p.router.area.database keys))) p.router.area.database
            so.copies;
      })
      (λ is. record {
        externals = so.externals;
        earlier = so.earlier;
        copies = sent_kept moment (full t) p.router
            (stepping_sends (only_at number (adjacencies.mismatch_step moment)) p.router.area.links)
            p.router.area.database so.copies;
      })

  from_kept : (number from : ℕ) (in_exchange : Bool) (b : PacketBody) (p : EventState) → Tells t p
      → So p → So (after_heard moment number from in_exchange b p)
  from_kept number from in_exchange (body.Hello h) p tells so =
      hello_kept number from h (link_at number p.router.area.links) p so
  from_kept number from in_exchange (body.Description d) p tells so = record {
    externals = so.externals;
    earlier = so.earlier;
    copies = sent_kept moment (full t) p.router
        (stepping_sends (only_at number
        (after_description p.router.id moment p.router.area.database d)) p.router.area.links)
        p.router.area.database so.copies;
  }
  from_kept number from true (body.Request keys) p tells so = request_kept number keys p so
  from_kept number from false (body.Request keys) p tells so = so
  from_kept number from true (body.Update lsas) p tells so =
      lsas_kept moment number t lsas p tells so
  from_kept number from false (body.Update lsas) p tells so = so
  from_kept number from true (body.Acknowledgment headers) p tells so = record {
    externals = so.externals;
    earlier = so.earlier;
    copies = sent_kept moment (full t) p.router
        (stepping_sends (only_at number (λ n. no_sends (after_acknowledgment moment headers n)))
        p.router.area.links) p.router.area.database so.copies;
  }
  from_kept number from false (body.Acknowledgment headers) p tells so = so

  pub packet_kept : (number : ℕ) (packet : Packet) (p : EventState) → Tells t p → So p
      → So (after_packet moment number packet p)
  packet_kept number packet p tells so =
      let exchanges : Bool = neighbor_is_exchange_or_later
      (neighbor_at number p.router.area.links) in
      chosen So (is_heard p.router.id packet (neighbor_at number p.router.area.links))
      (after_heard moment number packet.router exchanges packet.body p) p
      (λ heard. from_kept number packet.router exchanges packet.body p tells so) (λ heard. so)

  -- ---- commands

  want_ended : (key : Key) (p : EventState) → So p → So (end_want moment key p)
  want_ended key p so =
      let r : Router = p.router in
      flush_kept moment t key (on_router (unannounce key) p) (record {
        externals = one_less r.announced key so.externals;
        earlier = so.earlier;
        copies = all_so (FitsAt moment (full t) r)
            (Fits moment (excusing key t) r.id (finite.remove r.announced key)
            (set.remove r.waiting key) r.originated) r.area.database
            (λ q c there fits. excused_fit moment t key r.id r.announced
            (finite.remove r.announced key) r.waiting (set.remove r.waiting key) r.originated
            (record {
              announced = λ k other. finite.get-remove keys_total r.announced key k
                  ∙ at_other (same_key k key) None (finite.get r.announced k) other;
              waiting = λ k other. set.contains-remove keys_total r.waiting key k
                  ∙ not_and_so (same_key k key) (set.contains r.waiting k) other;
              originated = λ k other. refl;
            }) q c fits) so.copies;
      })

  announced_kept : (e : External) (p : EventState) → So p
      → So (announce_as moment (external_key p.router.id e.prefix) e p)
  announced_kept e p so =
      let r : Router = p.router in
      let key : Key = external_key r.id e.prefix in
      let q : EventState = on_router (announce key e) p in
      let now : ByKey External = finite.insert r.announced key e in
      let wanted : wanted_body q.router key ≡ Some (external_body e) =
      ap announced_body (finite.get-insert keys_total r.announced key e key
      ∙ at_same (same_key key key) (Some e) (finite.get r.announced key) (same_itself key)) in
      let left_out : InProgress moment (excusing key t) q = record {
        externals = one_more r.announced key e refl so.externals;
        earlier = so.earlier;
        copies = all_so (FitsAt moment (full t) r)
            (Fits moment (excusing key t) r.id now r.waiting r.originated) r.area.database
            (λ k c there fits. excused_fit moment t key r.id r.announced now r.waiting r.waiting
            r.originated (record {
              announced = λ x other. finite.get-insert keys_total r.announced key e x
                  ∙ at_other (same_key x key) (Some e) (finite.get r.announced x) other;
              waiting = λ x other. refl;
              originated = λ x other. refl;
            }) k c fits) so.copies;
      } in
      chosen So (is_announced_as e (finite.get r.announced key)) p (originate_anyway moment key q)
      (λ is. so)
      (λ is. subst (λ (w : Option LsaBody). So (originate_body true moment key w q)) (sym wanted)
      (some_kept moment t true key (external_body e) q wanted (λ same. absurd cc) (λ c there. refl)
      left_out))

  pub redistribute_kept : (e : External) (tag price : ℕ) (p : EventState) → So p
      → So (after_redistribute moment e tag price p)
  redistribute_kept e tag price p so =
      let key : Key = external_key p.router.id e.prefix in
      chosen So (nat_le ls_infinity price) (end_want moment key p)
      (announce_as moment key (answered_external e tag price) p)
      (λ is. want_ended key p so) (λ is. announced_kept (answered_external e tag price) p so)

  pub withdraw_kept : (prefix : Network) (p : EventState) → So p
      → So (after_withdraw moment prefix p)
  withdraw_kept prefix p so =
      let key : Key = external_key p.router.id prefix in
      chosen So (is_for prefix (finite.get p.router.announced key)) (end_want moment key p) p
      (λ is. want_ended key p so) (λ is. so)

-- ---- a Tick: what is due

abbrev pub is_among : Key → List Key → Bool
is_among q keys = list_any (same_key q) keys

-- only these may wait
abbrev pub among : List Key → Terms → Terms
among keys t = record t { may_wait = λ q. is_among q keys ≡ true }

listed : (r : Router) (q : Key) → IsWanted r.id r.announced q → is_among q (wanted_keys r) ≡ true
listed r q (inl is) = or_left (same_key q (router_key r.id)) _ is
listed r q (inr is) = or_right (same_key q (router_key r.id)) _
    (sym (finite.contains_key-keys r.announced q) ∙ ap is_some is.1.1)

still_listed : (test : Key → Bool) (q : Key) → test q ≡ true → (keys : List Key) → is_among q keys
    ≡ true → is_among q (filter test keys) ≡ true
still_listed test q passes [] among_them = among_them
still_listed test q passes (key ∷ keys) among_them =
    by_key (same_key q key) refl (λ h. still_listed test q passes keys h) among_them
  where
    by_key : (b : Bool) → same_key q key ≡ b
        → (is_among q keys ≡ true → is_among q (filter test keys) ≡ true) → (b || is_among q keys)
        ≡ true → is_among q (cond (test key) (key ∷ filter test keys) (filter test keys)) ≡ true
    by_key true same others h =
        let passed : test key ≡ true = subst (λ (k : Key). test k ≡ true) (tied_key q key same)
        passes in
        ap (λ (b : Bool). is_among q (cond b (key ∷ filter test keys) (filter test keys))) passed
        ∙ or_left (same_key q key) (is_among q (filter test keys)) same
    by_key false same others h =
        chosen (λ (ks : List Key). is_among q ks ≡ true) (test key) (key ∷ filter test keys)
        (filter test keys)
        (λ is. or_right (same_key q key) (is_among q (filter test keys)) (others h))
        (λ is. others h)

-- a wanted LSA that waits is due
pub waits_are_due : (moment : ℕ) (r : Router) (q : Key) → IsWanted r.id r.announced q
    → set.contains r.waiting q ≡ true → is_among q (due_keys moment r) ≡ true
waits_are_due moment r q wanted waits =
    still_listed (is_due moment r) q (or_left (set.contains r.waiting q) _ waits) (wanted_keys r)
    (listed r q wanted)

-- no copy of this key may wait any longer
narrowed : (moment : ℕ) (t u : Terms) (key : Key) (keys : List Key) (r : Router) → u.before
    ≡ t.before → u.now ≡ t.now → ((q : Key) → is_among q keys ≡ true → u.may_wait q)
    → ((q : Key) (c : DatabaseCopy) → same_key q key ≡ true → IsWanted r.id r.announced q
    → Standing moment u r.id r.announced r.waiting r.originated q c.lsa c.stored)
    → (q : Key) (c : DatabaseCopy) → FitsAt moment (full (among (key ∷ keys) t)) r q c
    → FitsAt moment u r q c
narrowed moment t u key keys r before now may here q c fits = (
  fits.0,
  λ own. recast moment (full (among (key ∷ keys) t)) u r.id r.announced r.announced r.waiting
      r.waiting r.originated r.originated q c.lsa c.stored (record {
        announced = λ e away there. there;
        waiting = λ there. there;
        originated = λ at last. last;
        before = λ router is. Standing.SaidBefore router (is ∙ sym before);
        now = λ router is. Standing.SaysNow router (is ∙ sym now);
        may_wait = λ listed wanted there. by_key (same_key q key) refl listed wanted there;
        excused = λ no. absurd no;
      }) (fits.1 own),
)
  where
    by_key : (b : Bool) → same_key q key ≡ b → (b || is_among q keys) ≡ true
        → IsWanted r.id r.announced q → set.contains r.waiting q ≡ true
        → Standing moment u r.id r.announced r.waiting r.originated q c.lsa c.stored
    by_key true same listed wanted there = here q c same wanted
    by_key false same listed wanted there = Standing.Waits (may q listed) wanted there

one_due : (moment : ℕ) (t : Terms) (key : Key) (keys : List Key) (p : EventState) → Tells t p
    → InProgress moment (full (among (key ∷ keys) t)) p
    → InProgress moment (full (among keys t)) (originate_or_postpone moment key p)
one_due moment t key keys p tells h =
    let r : Router = p.router in
    or_wait_kept moment (among keys t) key p
    (λ none. record {
      externals = h.externals;
      earlier = h.earlier;
      copies = all_so (FitsAt moment (full (among (key ∷ keys) t)) r)
          (FitsAt moment (full (among keys t)) r) r.area.database
          (λ q c there fits. narrowed moment t (full (among keys t)) key keys r refl refl
          (λ k listed. listed)
          (λ k d same wanted. absurd (unwanted k (wants r k wanted)
          (subst (λ (x : Key). wanted_body r x ≡ None) (sym (tied_key k key same)) none))) q c
          fits) h.copies;
    })
    (λ same. tells)
    (record {
      externals = h.externals;
      earlier = h.earlier;
      copies = all_so (FitsAt moment (full (among (key ∷ keys) t)) r)
          (FitsAt moment (excusing key (among keys t)) r) r.area.database
          (λ q c there fits. narrowed moment t (excusing key (among keys t)) key keys r refl refl
          (λ k listed. listed) (λ k d same wanted. Standing.Excused same) q c fits) h.copies;
    })
  where
    unwanted : (k : Key) → (says : LsaBody) × (wanted_body p.router k ≡ Some says)
        → wanted_body p.router k ≡ None → ⊥
    unwanted k some none = let e : Some some.0 ≡ None = sym some.1 ∙ none in absurd cc

or_wait_faces : (moment : ℕ) (key : Key) (p : EventState)
    → StaysFaced p (originate_or_postpone moment key p)
or_wait_faces moment key p = body_faces (has_room key p.router) moment key
    (wanted_body p.router key) p

due_kept : (moment : ℕ) (t : Terms) (keys : List Key) (p : EventState) → Tells t p
    → InProgress moment (full (among keys t)) p
    → InProgress moment (full (among [] t)) (originate_due moment keys p)
due_kept moment t [] p tells h = h
due_kept moment t (key ∷ keys) p tells h =
    let q : EventState = originate_or_postpone moment key p in
    due_kept moment t keys q (still_tells t p q (or_wait_faces moment key p) tells)
    (one_due moment t key keys p tells h)

due_faces : (moment : ℕ) (keys : List Key) (p : EventState)
    → StaysFaced p (originate_due moment keys p)
due_faces moment [] p = refl
due_faces moment (key ∷ keys) p = due_faces moment keys (originate_or_postpone moment key p)
    ∙ or_wait_faces moment key p

-- the state of a Tick before anything is originated
abbrev pub run_down : ℕ → EventState → EventState
run_down moment p = on_router (forget_originations moment)
    (on_area (on_links (map (expire_timers moment))) p)

pub tick_kept : (moment : ℕ) (t : Terms) (p : EventState) → Tells t (run_down moment p)
    → InProgress moment (full (among (due_keys moment (run_down moment p).router) t))
    (run_down moment p) → InProgress moment (full (among [] t)) (after_tick moment p)
tick_kept moment t p tells h =
    let first : EventState = run_down moment p in
    let renewed : EventState = originate_due moment (due_keys moment first.router) first in
    let u : Terms = full (among [] t) in
    let so : InProgress moment u renewed =
    due_kept moment t (due_keys moment first.router) first tells h in
    let o : AreaState = send_all_again moment (outcome renewed) in
    let acknowledged : AreaState = send_acknowledgments moment o in
    record {
      externals = so.externals;
      earlier = so.earlier;
      copies = sent_kept moment u renewed.router
          (sends_of (hello_sent_on moment) acknowledged.area.links) acknowledged.area.database
          (sent_kept moment u renewed.router (sends_of acknowledgments_on o.area.links)
          o.area.database
          (sent_kept moment u renewed.router
          (stepping_sends (again moment (outcome renewed)) renewed.router.area.links)
          renewed.router.area.database so.copies));
    }

pub tick_faces : (moment : ℕ) (p : EventState) → faces (after_tick moment p).router.area.links
    ≡ faces (map (expire_timers moment) p.router.area.links)
tick_faces moment p =
    let first : EventState = run_down moment p in
    let renewed : EventState = originate_due moment (due_keys moment first.router) first in
    let o : AreaState = send_all_again moment (outcome renewed) in
    let acknowledged : AreaState = send_acknowledgments moment o in
    mapped_faces (with_hello_sent moment) (λ link. refl) acknowledged.area.links
    ∙ mapped_faces without_acknowledgments (λ link. refl) o.area.links
    ∙ each_faces moment (again moment (outcome renewed)) (again_so moment (outcome renewed))
    (outcome renewed)
    ∙ due_faces moment (due_keys moment first.router) first

-- ---- the end

-- the router-LSA should have these bytes
abbrev pub told : List ℕ → (Key → Type 0) → Terms
told text may_wait = record { before = text; now = text; may_wait = may_wait; excused = λ q. ⊥ }

abbrev pub text_of : EventState → List ℕ
text_of p = body_text (router_body p.router.area.links)

-- other bytes are expected of the router-LSA
retold : (moment : ℕ) (t : Terms) (text : List ℕ) (id : ℕ) (a : ByKey External) (w : KeySet)
    (o : ByKey ℕ) → (q : Key) (c : DatabaseCopy) → Fits moment (full t) id a w o q c
    → Fits moment (excusing (router_key id) (told text t.may_wait)) id a w o q c
retold moment t text id a w o q c fits = (
  fits.0,
  λ own. recast moment (full t) (excusing (router_key id) (told text t.may_wait)) id a a w w o o q
      c.lsa c.stored (record {
        announced = λ e away there. there;
        waiting = λ there. there;
        originated = λ at last. last;
        before = λ router is. Standing.Excused router;
        now = λ router is. Standing.Excused router;
        may_wait = λ may wanted there. Standing.Waits may wanted there;
        excused = λ no. absurd no;
      }) (fits.1 own),
)

-- the bytes are the same
agreed : (moment : ℕ) (t : Terms) (text : List ℕ) (id : ℕ) (a : ByKey External) (w : KeySet)
    (o : ByKey ℕ) → t.before ≡ text → t.now ≡ text → (q : Key) (c : DatabaseCopy)
    → Fits moment (full t) id a w o q c → Fits moment (told text t.may_wait) id a w o q c
agreed moment t text id a w o before now q c fits = (
  fits.0,
  λ own. recast moment (full t) (told text t.may_wait) id a a w w o o q c.lsa c.stored (record {
    announced = λ e away there. there;
    waiting = λ there. there;
    originated = λ at last. last;
    before = λ router is. Standing.SaysNow router (is ∙ before);
    now = λ router is. Standing.SaysNow router (is ∙ now);
    may_wait = λ may wanted there. Standing.Waits may wanted there;
    excused = λ no. absurd no;
  }) (fits.1 own),
)

retold_all : (moment : ℕ) (t : Terms) (text : List ℕ) (p : EventState)
    → InProgress moment (full t) p → InProgress moment
    (excusing (router_key p.router.id) (told text t.may_wait)) p
retold_all moment t text p h =
    let r : Router = p.router in
    record {
      externals = h.externals;
      earlier = h.earlier;
      copies = all_so (FitsAt moment (full t) r)
          (FitsAt moment (excusing (router_key r.id) (told text t.may_wait)) r) r.area.database
          (λ q c there fits. retold moment t text r.id r.announced r.waiting r.originated q c fits)
          h.copies;
    }

agreed_all : (moment : ℕ) (t : Terms) (text : List ℕ) (p : EventState) → t.before ≡ text → t.now
    ≡ text → InProgress moment (full t) p → InProgress moment (told text t.may_wait) p
agreed_all moment t text p before now h =
    let r : Router = p.router in
    record {
      externals = h.externals;
      earlier = h.earlier;
      copies = all_so (FitsAt moment (full t) r) (FitsAt moment (told text t.may_wait) r)
          r.area.database
          (λ q c there fits. agreed moment t text r.id r.announced r.waiting r.originated before now
          q c fits) h.copies;
    }

pub wants_router_lsa : (r : Router) → wanted_body r (router_key r.id)
    ≡ Some (router_body r.area.links)
wants_router_lsa r = at_same (same_key (router_key r.id) (router_key r.id))
    (Some (router_body r.area.links)) (announced_body (finite.get r.announced (router_key r.id)))
    (same_itself (router_key r.id))

abbrev body_of_copy : LsaBody → Option DatabaseCopy → LsaBody
body_of_copy other None = other
body_of_copy other (Some c) = c.lsa.body

-- the current copy has these bytes
says_current : (says : LsaBody) (o : Option DatabaseCopy) (c : DatabaseCopy) → o ≡ Some c
    → copy_has_body says o ≡ true → body_text c.lsa.body ≡ body_text says
says_current says None c there is = absurd cc
says_current says (Some d) c there is =
    ap (λ (o : Option DatabaseCopy). body_text (body_of_copy says o)) (sym there)
    ∙ text_of_same d.lsa.body says is

not_first : (a b : Bool) → (a && not b) ≡ false → (a ≡ false) ⊎ (b ≡ true)
not_first true true e = inr refl
not_first true false e = absurd cc
not_first false b e = inl refl

second_of : (a b : Bool) → (a && b) ≡ true → b ≡ true
second_of true b e = e
second_of false b e = absurd cc

module _ (moment : ℕ) (t : Terms) (before : List Link) (p : EventState)
    (is_before : t.before ≡ body_text (router_body before))
    (agrees : t.before ≡ body_text (router_body p.router.area.links) → t.now ≡ t.before) where
  abbrev text : List ℕ
  text = text_of p

  abbrev own_key : Key
  own_key = router_key p.router.id

  abbrev says : LsaBody
  says = router_body p.router.area.links

  abbrev at_once_kept : EventState
  at_once_kept = originate_or_postpone moment own_key p

  abbrev Told : EventState → Type 0
  Told = InProgress moment (told text t.may_wait)

  said_at_once : InProgress moment (full t) p → Told at_once_kept
  said_at_once h =
      subst (λ (w : Option LsaBody). Told
      (originate_body (has_room own_key p.router) moment own_key w p))
      (sym (wants_router_lsa p.router))
      (some_kept moment (told text t.may_wait) (has_room own_key p.router) own_key says p
      (wants_router_lsa p.router) (λ same. refl) (λ c there. roomy own_key p.router c there)
      (retold_all moment t text p h))

  -- it was originated in this event
  said_already : is_current moment p.router ≡ true → InProgress moment (full t) p → Told p
  said_already current h =
      let r : Router = p.router in
      let u : Terms = told text t.may_wait in
      let left_out : InProgress moment (excusing own_key u) p = retold_all moment t text p h in
      let has : copy_has_body says (finite.get r.area.database own_key) ≡ true =
      second_of (is_at moment (finite.get r.originated own_key))
      (copy_has_body says (finite.get r.area.database own_key)) current in
      record {
        externals = h.externals;
        earlier = h.earlier;
        copies = closed_at (FitsAt moment (excusing own_key u) r) (FitsAt moment u r)
            r.area.database own_key
            (others_fit moment u own_key r.id r.announced r.announced r.waiting r.waiting
            r.originated r.originated (nothing_changes own_key r.announced r.waiting
            r.originated))
            (λ c there fits. (
              fits.0,
              λ own. Standing.SaysNow (same_itself own_key)
                  (says_current says (finite.get r.area.database own_key) c there has),
            ))
            left_out.copies;
      }

  unsaid : InProgress moment (full t) p → links_differ before p.router.area.links ≡ false → Told p
  unsaid h same =
      let e : t.before ≡ text = is_before ∙ undiffering before p.router.area.links same in
      agreed_all moment t text p e (agrees e ∙ e) h

  pub described_kept : InProgress moment (full t) p → Told (originate_router_lsa before moment p)
  described_kept h =
      chosen Told (links_differ before p.router.area.links && not (is_current moment p.router))
      at_once_kept p (λ is. said_at_once h)
      (λ is. by_reason (not_first (links_differ before p.router.area.links)
      (is_current moment p.router) is))
    where
      by_reason : (links_differ before p.router.area.links ≡ false)
          ⊎ (is_current moment p.router ≡ true) → Told p
      by_reason (inl same) = unsaid h same
      by_reason (inr current) = said_already current h

  pub described_faces : StaysFaced p (originate_router_lsa before moment p)
  described_faces =
      chosen (StaysFaced p) (links_differ before p.router.area.links && not
      (is_current moment p.router)) at_once_kept p (λ is. or_wait_faces moment own_key p)
      (λ is. refl)

-- ---- what changes after that waits: the router-LSA was originated at this moment, or is at MaxAge

abbrev IsSettledCopy : ℕ → EventState → DatabaseCopy → Type 0
IsSettledCopy moment q c = (is_aged_out moment c ≡ true)
    ⊎ (finite.get q.router.originated (router_key q.router.id) ≡ Some moment)

-- no neighbor becomes Full any more, or the copy of the router-LSA is final
abbrev IsFilledOrSettled : ℕ → EventState → Type 0
IsFilledOrSettled moment q =
    (map link_loading_done q.router.area.links ≡ q.router.area.links)
    ⊎ ((c : DatabaseCopy) → finite.get q.router.area.database (router_key q.router.id) ≡ Some c
    → IsSettledCopy moment q c)

abbrev IfOwnAged : ℕ → ℕ → Key → DatabaseCopy → Type 0
IfOwnAged moment id q c = same_key q (router_key id) ≡ true → is_aged_out moment c ≡ true

module _ (moment : ℕ) (p : EventState)
    (filled : map link_loading_done p.router.area.links ≡ p.router.area.links) where
  abbrev own : Key
  own = router_key p.router.id

  abbrev Q : EventState → Type 0
  Q = IsFilledOrSettled moment

  anything : AllIn (λ q c. Unit {0}) p.router.area.database
  anything key = any (finite.get p.router.area.database key)
    where
      any : (o : Option DatabaseCopy) → IfThere (λ q c. Unit {0}) key o
      any None = tt
      any (Some c) = tt

  flushed_settled : (found : Option DatabaseCopy) → finite.get p.router.area.database own ≡ found
      → has_max_sequence found ≡ true → Q (on_area (flush_copy moment own found) p)
  flushed_settled None is last = absurd cc
  flushed_settled (Some c) is last =
      let lsa : Lsa = lsa_with_age 3600 c.lsa in
      chosen (λ (o : AreaState). Q (with_outcome p o)) (is_aged_out moment c) (outcome p)
      (flood_from_nobody moment lsa (on_database (age_prematurely moment own) (outcome p)))
      (λ aged. inl filled)
      (λ young.
      let all : AllIn (IfOwnAged moment p.router.id)
      (marks moment (stepping_sends (flood_to moment None lsa) p.router.area.links)
      (age_prematurely moment own p.router.area.database)) =
      marked (IfOwnAged moment p.router.id) (λ key d sent h. h) moment
      (stepping_sends (flood_to moment None lsa) p.router.area.links)
      (age_prematurely moment own p.router.area.database)
      (aged_at (λ q d. Unit {0}) (IfOwnAged moment p.router.id) moment p.router.area.database own c
      (finite.get p.router.area.database own) refl is
      (λ q d other any same. absurd (both_ways (same_key q own) other same))
      (λ d same. flushed_age moment) anything) in
      inr (λ d there. inl (at_copy (IfOwnAged moment p.router.id) _ own d there all
      (same_itself own))))

  some_settled : (may_now : Bool) (says : LsaBody)
      → Q (originate_body may_now moment own (Some says) p)
  some_settled may_now says =
      let may : Bool = may_originate moment own p.router in
      chosen Q (has_max_sequence (finite.get p.router.area.database own)) (flush moment own p)
      (cond (may_now && may) (originate moment own says p) (on_router (postpone own) p))
      (λ last. flushed_settled (finite.get p.router.area.database own) refl last)
      (λ more. chosen Q (may_now && may) (originate moment own says p) (on_router (postpone own) p)
      (λ goes. inr (λ c there. inr (originated_now moment p.router.originated own)))
      (λ waits. inl filled))

  pub described_settled : (before : List Link) → Q (originate_router_lsa before moment p)
  described_settled before =
      chosen Q (links_differ before p.router.area.links && not (is_current moment p.router))
      (originate_or_postpone moment own p) p
      (λ is. subst (λ (w : Option LsaBody). Q
      (originate_body (has_room own p.router) moment own w p))
      (sym (wants_router_lsa p.router))
      (some_settled (has_room own p.router) (router_body p.router.area.links))) (λ is. inl filled)

pub later_kept : (moment : ℕ) (t : Terms) (said : EventState) → t.before ≡ text_of said → t.now
    ≡ text_of said → IsFilledOrSettled moment said → InProgress moment (full t) said
    → InProgress moment (told (text_of (loading_done said)) t.may_wait)
    (postpone_router_lsa said.router.area.links (loading_done said))
later_kept moment t said before now settled h =
    let q : EventState = loading_done said in
    let r : Router = q.router in
    let text : List ℕ = text_of q in
    let u : Terms = told text t.may_wait in
    let key : Key = router_key r.id in
    let there_so : InProgress moment (full t) q = record {
      externals = h.externals;
      earlier = h.earlier;
      copies = h.copies;
    } in
    chosen (InProgress moment u) (links_differ said.router.area.links q.router.area.links)
    (on_router (postpone key) q) q
    (λ differ. wait_kept moment u key q
    (λ c there. stands c (by_case differ settled c there)) (retold_all moment t text q there_so))
    (λ same.
    let e : text_of said ≡ text = undiffering said.router.area.links q.router.area.links same in
    agreed_all moment t text q (before ∙ e) (now ∙ e) there_so)
  where
    by_case : links_differ said.router.area.links (map link_loading_done said.router.area.links)
        ≡ true → IsFilledOrSettled moment said → (c : DatabaseCopy)
        → finite.get said.router.area.database (router_key said.router.id) ≡ Some c
        → IsSettledCopy moment said c
    by_case differ (inl same) c there =
        absurd (both_ways _ (never_differs said.router.area.links
        (map link_loading_done said.router.area.links) same) differ)
    by_case differ (inr so) c there = so c there

    stands : (c : DatabaseCopy) → IsSettledCopy moment said c
        → Standing moment (full (told (text_of (loading_done said)) t.may_wait)) said.router.id
        said.router.announced (set.insert said.router.waiting (router_key said.router.id))
        said.router.originated (router_key said.router.id) c.lsa c.stored
    stands c (inl aged) = Standing.Aged aged
    stands c (inr last) =
        Standing.HeldBack moment (inl (same_itself (router_key said.router.id)))
        (waits_there said.router.waiting (router_key said.router.id)) last (omega arith)

later_faces : (before : List Link) (p : EventState) → StaysFaced p (postpone_router_lsa before p)
later_faces before p = chosen (StaysFaced p) (links_differ before p.router.area.links)
    (on_router (postpone (router_key p.router.id)) p) p (λ is. refl) (λ is. refl)

-- ---- the complete end

-- between events the invariant holds of all own copies, with the keys that may wait
abbrev pub Rests : (Key → Type 0) → ℕ → EventState → Type 0
Rests may_wait moment p = InProgress moment (told (text_of p) may_wait) p

removed_faces : (moment : ℕ) (o : AreaState) → faces (remove_aged moment o).area.links
    ≡ faces o.area.links
removed_faces moment o =
    chosen (λ (q : AreaState). faces q.area.links ≡ faces o.area.links)
    (any_exchange_or_loading o.area.links) o
    (on_database (λ db. finite.retain_keys db (stays moment o.area)) o) (λ is. refl)
    (λ is. refl)

pub ended_kept : (old : Router) (moment : ℕ) (t : Terms) (p : EventState) → t.before
    ≡ body_text (router_body old.area.links)
    → (t.before ≡ body_text (router_body (map link_loading_done p.router.area.links)) → t.now
    ≡ t.before) → InProgress moment (full t) p
    → Rests t.may_wait moment (end_event old moment p)
ended_kept old moment t p before agrees h =
    let first : EventState = loading_done p in
    let filled_first : InProgress moment (full t) first = record {
      externals = h.externals;
      earlier = h.earlier;
      copies = h.copies;
    } in
    let said : EventState = originate_router_lsa old.area.links moment first in
    let u : Terms = told (text_of first) t.may_wait in
    let said_so : InProgress moment u said =
    described_kept moment t old.area.links first before agrees filled_first in
    let said_text : text_of first ≡ text_of said =
    ap body_text (sym (same_faces first.router.area.links said.router.area.links
    (described_faces moment t old.area.links first before agrees))) in
    let settled : IsFilledOrSettled moment said =
    described_settled moment first (once p.router.area.links) old.area.links in
    let last : EventState = loading_done said in
    let v : Terms = told (text_of last) t.may_wait in
    let refilled : EventState = postpone_router_lsa said.router.area.links last in
    let so : InProgress moment v refilled =
    later_kept moment u said said_text said_text settled said_so in
    let r : Router = refilled.router in
    let o : AreaState = request_all moment (outcome refilled) in
    let asked : AllIn (FitsAt moment v r) o.area.database =
    sent_kept moment v r (stepping_sends (λ number link n. request_next moment n) r.area.links)
    r.area.database so.copies in
    let left : AllIn (FitsAt moment v r) (remove_aged moment o).area.database =
    chosen (λ (q : AreaState). AllIn (FitsAt moment v r) q.area.database)
    (any_exchange_or_loading o.area.links) o
    (on_database (λ db. finite.retain_keys db (stays moment o.area)) o)
    (λ is. asked) (λ is. retained_in (FitsAt moment v r) o.area.database (stays moment o.area)
    asked) in
    let end : EventState = end_event old moment p in
    let whole : InProgress moment v end = record {
      externals = so.externals;
      earlier = so.earlier;
      copies = left;
    } in
    let shown : faces end.router.area.links ≡ faces last.router.area.links =
    removed_faces moment o ∙ each_faces moment (λ number link n. request_next moment n)
    (asks_so moment) (outcome refilled) ∙ later_faces said.router.area.links last in
    subst (λ (text : List ℕ). InProgress moment (told text t.may_wait) end)
    (ap body_text (sym (same_faces last.router.area.links end.router.area.links shown))) whole
