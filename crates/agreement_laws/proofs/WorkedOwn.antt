-- A router with one interface whose last request is satisfied.
use Rattle.std.proofs.Common.{◌≡◌, ℕ, ◌+◌, ◌-◌, ◌<◌, ◌==◌, Bool, true, false, cond, not, ◌&&◌, ◌||◌}
use Rattle.std.proofs.Common.{List, [], ◌∷◌, Option, None, Some, refl, sym, ap, ◌∙◌, subst, is_some}
use Rattle.std.proofs.Common.{nat_le, nat_lt, arith, true≢false}
use Rattle.std.specs.FinMap as finite
use Rattle.std.specs.FinSet as set
use Rattle.std.specs.Cmp.{tied_itself}
use Rattle.std.specs.Ordering.{eq_by_cmp, is_eq}
use Rattle.std.proofs.lemmas.Option.{none-some}
use Rattle.words.specs.declared.key.Key.{Key}
use Rattle.lsa.specs.Origination.{sealed_lsa}
use Rattle.lsa.specs.declared.body.LsaBody.{LsaBody}
use Rattle.lsdb.specs.Copies.{Database, DatabaseCopy, install_flooded}
use Rattle.lsdb.specs.Headers.{Lsa, lsa_key}
use Rattle.lsdb.specs.Instances.{ListEntry}
use Rattle.lsdb.specs.Keys.{ByKey, KeySet, key_cmp}
use Rattle.lsdb.proofs.Keys.{keys_total}
use Rattle.adjacency.specs.Neighbors.{Neighbor}
use Rattle.adjacency.specs.Requests.{requested_entry, without_request}
use Rattle.adjacency.specs.Retransmissions.{remove_retransmission}
use Rattle.adjacency.specs.declared.state.NeighborState.TheVariants.{Full}
use Rattle.received.specs.Flooding.{satisfies_request}
use Rattle.received.specs.Links.{Link, delay_acknowledgment}
use Rattle.received.specs.Updates.{flood_and_install}
use Rattle.event_rules.specs.declared.model.Out.{Out}
use Rattle.event_rules.specs.Endings.{copy_has_body, originate_router_lsa, postpone_router_lsa}
use Rattle.event_rules.specs.Endings.{loading_done, end_event, is_at, is_current, links_differ}
use Rattle.event_rules.specs.Events.{Happens}
use Rattle.event_rules.specs.Originations.{announced_body, as_originated, flush, has_max_sequence}
use Rattle.event_rules.specs.Originations.{has_room, install_and_flood, interval_is_over}
use Rattle.event_rules.specs.Originations.{is_own_external, may_originate, should_originate}
use Rattle.event_rules.specs.Originations.{new_instance}
use Rattle.event_rules.specs.Originations.{originate_body, originate_or_postpone, own_externals}
use Rattle.event_rules.specs.Originations.{router_body}
use Rattle.event_rules.specs.Originations.{router_key, originate_or_flush, postpone, wanted_body}
use Rattle.event_rules.specs.Packets.{after_lsa}
use Rattle.event_rules.specs.Packing.{outs_of}
use Rattle.event_rules.specs.EventState.{EventState, on_area, on_router}
use Rattle.event_rules.specs.Routers.{Occurrence, Router, shown_at}
use Rattle.agreement_laws.specs.WorkedOwn.{ALastRequestIsMet, MeetsTheLastRequest, beside, loading}
use Rattle.agreement_laws.specs.WorkedOwn.{next_router_lsa, sends_update}
use Rattle.agreement_laws.specs.WorkedUpdates.{IsUpdateWith, WaitsAt}
use Rattle.agreement_laws.proofs.WorkedEnds.{describes_not_later, ended, last, last_rest}
use Rattle.agreement_laws.proofs.WorkedUpdates.{inserted, new_case, own_part, start, tied, brought}

-- ---- the request

asked : (moment : ℕ) (lsa : Lsa) (o : Option ListEntry) → satisfies_request moment lsa o ≡ true
    → is_some o
    ≡ true
asked moment lsa None e = absurd (true≢false (sym e))
asked moment lsa (Some r) e = refl

none_left : (m : ByKey ListEntry) (k : Key) → is_some (finite.get m k) ≡ true → finite.len m ≡ 1
    → (finite.len (finite.remove m k) == 0) ≡ true
none_left m k there one = ap (λ n. n == 0)
    (finite.len-remove keys_total m k ∙ (λ i. cond (there i) (one i - 1) (one i)))

abbrev met : Lsa → Neighbor → Neighbor
met lsa n = remove_retransmission (lsa_key lsa) (without_request (lsa_key lsa) (loading n))

abbrev full : Lsa → Neighbor → Neighbor
full lsa n = record (met lsa n) { state = Full }

-- the LSA is installed, and this is the neighbor
abbrev pub put : Router → Link → ℕ → Lsa → Neighbor → EventState
put r link moment lsa n = record {
  router = record r {
    area = record {
      links = delay_acknowledgment lsa.header (record link {
        neighbor = Some n;
      }) ∷ [];
      database = install_flooded moment lsa r.area.database;
    };
  };
  sends = [];
}

becomes_full : (r : Router) (link : Link) (n : Neighbor) (moment : ℕ) (lsa : Lsa)
    → finite.len n.requests ≡ 1 → satisfies_request moment lsa (requested_entry n (lsa_key lsa))
    ≡ true
    → loading_done (on_area (flood_and_install moment 1 lsa) (start (beside r link (loading n))))
    ≡ put r link moment lsa (full lsa n)
becomes_full r link n moment lsa one is_met =
    ap (λ b. loading_done (put r link moment lsa
    (remove_retransmission (lsa_key lsa)
    (cond b (without_request (lsa_key lsa) (loading n)) (loading n))))) is_met
    ∙ ap (λ b. put r link moment lsa (cond b (full lsa n) (met lsa n)))
    (none_left n.requests (lsa_key lsa)
    (asked moment lsa (requested_entry n (lsa_key lsa)) is_met) one)

-- ---- the router-LSA

-- the router's own copy has another key
own_stays : (db : Database) (lsa : Lsa) (key : Key) (own : DatabaseCopy) (moment : ℕ)
    → finite.get db (lsa_key lsa) ≡ None → finite.get db key ≡ Some own
    → finite.get (install_flooded moment lsa db) key ≡ Some own
own_stays db lsa key own moment absent there = by_same (eq_by_cmp key_cmp key (lsa_key lsa)) refl
  where
    by_same : (b : Bool) → eq_by_cmp key_cmp key (lsa_key lsa) ≡ b
        → finite.get (finite.insert db (lsa_key lsa) (brought lsa moment None)) key ≡ Some own
    by_same true is = absurd (none-some own
        (sym absent ∙ finite.get_tied keys_total db key (lsa_key lsa)
        (tied (key_cmp key (lsa_key lsa)) is) ∙ there))
    by_same false is = finite.get-insert keys_total db (lsa_key lsa) (brought lsa moment None) key
        ∙ ap (λ b. cond b (Some (brought lsa moment None)) (finite.get db key)) is ∙ there

pub wanted : (r : Router) → wanted_body r (router_key r.id) ≡ Some (router_body r.area.links)
wanted r = ap (λ o. cond (is_eq o) (Some (router_body r.area.links))
    (announced_body (finite.get r.announced (router_key r.id))))
    (tied_itself keys_total (router_key r.id))

-- what the end of an event does if the links have changed, by whether MinLSInterval has passed
abbrev described : Bool → ℕ → DatabaseCopy → EventState → EventState
described over moment own p =
    cond over (on_router (as_originated moment (router_key p.router.id))
    (on_area (install_and_flood moment (next_router_lsa p.router own)) p))
    (on_router (postpone (router_key p.router.id)) p)

describes : (over : Bool) (moment : ℕ) (own : DatabaseCopy) (p : EventState)
    → finite.get p.router.area.database (router_key p.router.id) ≡ Some own
    → has_max_sequence (Some own) ≡ false
    → may_originate moment (router_key p.router.id) p.router ≡ over
    → originate_or_postpone moment (router_key p.router.id) p ≡ described over moment own p
describes over moment own p there counts may =
    let key : Key = router_key p.router.id in
    let says : LsaBody = router_body p.router.area.links in
    let room : has_room key p.router ≡ true =
    ap (λ o. is_some o || (nat_lt (finite.len p.router.area.database) 16384 &&
    (not (is_own_external p.router.id key) || nat_lt
    (own_externals p.router.id p.router.area.database) 4096))) there in
    (λ i. originate_body (room i) moment key (wanted p.router i) p)
    ∙ (λ i. cond (has_max_sequence (there i)) (flush moment key p)
    (cond (true && may i) (on_router (as_originated moment key)
    (on_area (install_and_flood moment (new_instance key (there i) says)) p))
    (on_router (postpone key) p)))
    ∙ (λ i. cond (counts i) (flush moment key p) (described over moment own p))

-- ---- the complete event

now_full : (r : Router) (link : Link) (n : Neighbor) (moment : ℕ) (lsa : Lsa)
    → links_differ (beside r link (loading n)).area.links
    (put r link moment lsa (full lsa n)).router.area.links ≡ true
now_full r link n moment lsa = refl

ending : (r : Router) (link : Link) (n : Neighbor) (moment : ℕ) (lsa : Lsa) (own : DatabaseCopy)
    (over : Bool) → MeetsTheLastRequest r n moment lsa own
    → is_at moment (finite.get r.originated (router_key r.id)) ≡ false
    → interval_is_over moment (finite.get r.originated (router_key r.id)) ≡ over
    → end_event (beside r link (loading n)) moment
    (on_area (flood_and_install moment 1 lsa) (start (beside r link (loading n))))
    ≡ ended moment (described over moment own
    (put r link moment lsa (full lsa n)))
ending r link n moment lsa own over meet unsaid is_over =
    let old : Router = beside r link (loading n) in
    let p : EventState = put r link moment lsa (full lsa n) in
    let later : EventState → EventState =
    λ q. last moment (postpone_router_lsa q.router.area.links (loading_done q)) in
    let told : EventState = originate_or_postpone moment (router_key r.id) p in
    let still : finite.get p.router.area.database (router_key r.id) ≡ Some own =
    own_stays r.area.database lsa (router_key r.id) own moment meet.is_absent meet.own_there in
    ap (λ q. later (originate_router_lsa old.area.links moment q))
    (becomes_full r link n moment lsa meet.is_last meet.is_met)
    ∙ ap (λ b. later (cond (b && not (is_current moment p.router)) told p))
    (now_full r link n moment lsa)
    ∙ ap (λ b. later (cond (not (b && copy_has_body (router_body p.router.area.links)
    (finite.get p.router.area.database (router_key r.id)))) told p)) unsaid
    ∙ ap later (describes over moment own p still meet.counts_on is_over)
    ∙ quietly over
  where
    quietly : (b : Bool) → last moment
        (postpone_router_lsa (described b moment own
        (put r link moment lsa (full lsa n))).router.area.links
        (loading_done (described b moment own (put r link moment lsa (full lsa n)))))
        ≡ ended moment (described b moment own (put r link moment lsa (full lsa n)))
    quietly true = ap (last moment) (describes_not_later
        (described true moment own (put r link moment lsa (full lsa n))))
        ∙ last_rest moment (described true moment own (put r link moment lsa (full lsa n))) refl
    quietly false = ap (last moment) (describes_not_later
        (described false moment own (put r link moment lsa (full lsa n))))
        ∙ last_rest moment (described false moment own (put r link moment lsa (full lsa n)))
        refl

own_update : (r new : Router) (link : Link) (n : Neighbor) (moment : ℕ) (bytes : List ℕ) (lsa : Lsa)
    (own : DatabaseCopy) (outs : List Out) → MeetsTheLastRequest r n moment lsa own
    → IsUpdateWith bytes n.router lsa
    → (event : Happens (beside r link (loading n)) moment (Occurrence.Packet 1 bytes) outs
    new) → event.after ≡ on_area (flood_and_install moment 1 lsa)
    (start (beside r link (loading n)))
own_update r new link n moment bytes lsa own outs meet text event =
    let old : Router = beside r link (loading n) in
    let p : EventState = on_area (flood_and_install moment 1 lsa) (start old) in
    own_part old moment 1 bytes lsa (loading n) event.after meet.nothing_ages refl meet.is_other
    refl text event.own
    ∙ ap (λ c. after_lsa c moment 1 lsa (start old))
    (new_case moment 1 lsa old.area meet.is_absent meet.is_young)
    ∙ ap (λ b. cond b (originate_or_flush (should_originate (wanted_body p.router (lsa_key lsa)))
    moment
    (lsa_key lsa) p) p) meet.is_foreign_lsa

over_not_now : (moment : ℕ) (o : Option ℕ) → interval_is_over moment o ≡ true → is_at moment o
    ≡ false
over_not_now moment None e = refl
over_not_now moment (Some at) e = grind (arith, e)

before_now : (at moment : ℕ) → at < moment → (at == moment) ≡ false
before_now at moment early = grind (arith, early)

too_early : (at moment : ℕ) → moment < at + 5 → nat_le 5 (moment - at) ≡ false
too_early at moment late = grind (arith, late)

waits_for_tick : (s : KeySet) (k : Key) → set.contains (set.insert s k) k ≡ true
waits_for_tick s k = set.contains-insert keys_total s k k
    ∙ ap (λ o. is_eq o || set.contains s k) (tied_itself keys_total k)

pub last_request : ALastRequestIsMet
unfolding sealed_lsa
last_request = record {
  next_number = λ r own. refl;
  new_age = λ r own. refl;
  at_once = λ r new link n moment bytes lsa own outs meet text over event.
      let old : Router = beside r link (loading n) in
      let p : EventState = put r link moment lsa (full lsa n) in
      let end : end_event old moment event.after ≡ ended moment (described true moment own p) =
      ap (end_event old moment) (own_update r new link n moment bytes lsa own outs meet text event)
      ∙ ending r link n moment lsa own true meet
      (over_not_now moment (finite.get r.originated (router_key r.id)) over) over in
      let is : new ≡ (ended moment (described true moment own p)).router = event.router
      ∙ ap (λ (q : EventState). q.router) end in
      subst (λ s. (shown_at s 1 ≡ Some (n.router, Full)) × WaitsAt s 1 lsa
      × (outs ≡ outs_of r.id old.area.links (sends_update (next_router_lsa s own)))) (sym is) (
        refl,
        (_, refl, inserted link.acknowledgments (lsa_key lsa) lsa.header),
        event.sent ∙ ap (λ (q : EventState). outs_of r.id old.area.links q.sends) end,
      );
  later = λ r new link n moment before bytes lsa own outs meet text there early late event.
      let old : Router = beside r link (loading n) in
      let p : EventState = put r link moment lsa (full lsa n) in
      let not_now : is_at moment (finite.get r.originated (router_key r.id)) ≡ false =
      ap (is_at moment) there ∙ before_now before moment early in
      let not_over : interval_is_over moment (finite.get r.originated (router_key r.id)) ≡ false =
      ap (interval_is_over moment) there ∙ too_early before moment late in
      let end : end_event old moment event.after ≡ ended moment (described false moment own p) =
      ap (end_event old moment) (own_update r new link n moment bytes lsa own outs meet text event)
      ∙ ending r link n moment lsa own false meet not_now not_over in
      let is : new ≡ (ended moment (described false moment own p)).router = event.router
      ∙ ap (λ (q : EventState). q.router) end in
      subst (λ s. (shown_at s 1 ≡ Some (n.router, Full)) × WaitsAt s 1 lsa × (outs ≡ [])
      × (set.contains s.waiting (router_key r.id) ≡ true)) (sym is) (
        refl,
        (_, refl, inserted link.acknowledgments (lsa_key lsa) lsa.header),
        event.sent ∙ ap (λ (q : EventState). outs_of r.id old.area.links q.sends) end,
        waits_for_tick r.waiting (router_key r.id),
      );
}
