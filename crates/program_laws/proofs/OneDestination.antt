-- A `Redistribute` changes only what has the key of its destination; and two of them have the same
-- result except for that key.
use Rattle.std.proofs.Common.{◌≡◌, ℕ, ◌+◌, Bool, true, false, cond, not, ◌&&◌, ◌||◌, List, [], ◌∷◌}
use Rattle.std.proofs.Common.{◌++◌, map, Option, None, Some, is_some, refl, sym, ◌∙◌, ap, subst}
use Rattle.std.specs.Prelude.{nat_le}
use Rattle.std.specs.List.{enumerate_from, flat_map, fold}
use Rattle.std.specs.FinMap as finite
use Rattle.std.specs.FinSet as set
use Rattle.std.proofs.lemmas.Bool.{or_parts}
use Rattle.words.specs.Constants.{ls_infinity, max_age}
use Rattle.words.specs.Numbers.{Moment, RouterNumber}
use Rattle.words.specs.declared.key.Key.{Key}
use Rattle.words.specs.declared.route.External.{External}
use Rattle.lsa.specs.Origination.{sealed_lsa}
use Rattle.lsa.specs.declared.body.LsaBody.{LsaBody}
use Rattle.lsdb.specs.Copies.{Database, DatabaseCopy, age_prematurely, has_just_aged_out}
use Rattle.lsdb.specs.Copies.{install_originated, is_aged_out, lsa_now}
use Rattle.lsdb.specs.Headers.{Lsa, lsa_with_age, lsa_key}
use Rattle.lsdb.specs.Instances.{ListEntry}
use Rattle.lsdb.specs.Keys.{ByKey, KeySet, same_key}
use Rattle.lsdb.proofs.Keys.{keys_total}
use Rattle.adjacency.specs.Asked.{is_on_request_list}
use Rattle.adjacency.specs.Contents.{Content}
use Rattle.adjacency.specs.Contents.Content.{Updates}
use Rattle.adjacency.specs.Floods.{satisfies_request, exceeds_request, request_of}
use Rattle.adjacency.specs.Neighbors.{Neighbor, is_exchange_or_later}
use Rattle.received.specs.Flooding.{flood_to}
use Rattle.received.specs.Links.{Link}
use Rattle.received.specs.AreaStates.{AreaState, Send, marked_database, sends_at, on_database}
use Rattle.received.specs.AreaStates.{sent_on}
use Rattle.received.specs.AreaStates.{step_on, stepping_sends}
use Rattle.received.proofs.Marks.{changed_by}
use Rattle.event_rules.specs.Commands.{after_redistribute, announce, announce_as, answered_external}
use Rattle.event_rules.specs.Commands.{end_want, is_announced_as, unannounce}
use Rattle.event_rules.specs.Endings.{end_event, flood_if_aged, start_event}
use Rattle.event_rules.specs.Events.{Happens}
use Rattle.event_rules.specs.EventState.{EventState, flood_from_nobody, on_area, on_router}
use Rattle.event_rules.specs.Originations.{announced_body, as_originated, external_body}
use Rattle.event_rules.specs.Originations.{external_key, flush, flush_copy, has_max_sequence}
use Rattle.event_rules.specs.Originations.{install_and_flood, may_originate, new_instance}
use Rattle.event_rules.specs.Originations.{originate, originate_anyway, originate_body, postpone}
use Rattle.event_rules.specs.Originations.{router_key}
use Rattle.event_rules.specs.Routers.{Occurrence, Router}
use Rattle.event_rules.specs.declared.model.Out.{Out}
use Rattle.program_laws.specs.Destinations.{AnswersReachOneDestination, IsUnderItsKey, is_requested}
use Rattle.program_laws.specs.Destinations.{link_without, neighbor_on_without, router_without}
use Rattle.program_laws.specs.Destinations.{sends_without, updates}
use Rattle.program_laws.proofs.Apart as apart
use Rattle.program_laws.proofs.Destinations as rest

no_value : {X : Type 0} (o : Option X) → is_some o ≡ false → o ≡ None
no_value None e = refl
no_value (Some x) e = absurd cc

new_key : (key : Key) → key.ls_type ≡ 5 → (copy : Option DatabaseCopy) (e : External)
    → lsa_key (new_instance key copy (external_body e)) ≡ key
unfolding sealed_lsa
new_key key is copy e = λ i. record {
  ls_type = sym is i;
  link_state_id = key.link_state_id;
  advertising_router = key.advertising_router;
}

module _ (key : Key) (is_external : key.ls_type ≡ 5) where
  abbrev NotRequested : List Link → Type 0
  NotRequested links = is_requested key links ≡ false

  -- ---- flooding the LSA of the key

  own_links : (moment : Moment) (lsa : Lsa) → lsa_key lsa ≡ key → (number : ℕ) (links : List Link)
      → NotRequested links
      → map (link_without key) (map (λ (e : ℕ × Link). record e.1
      { neighbor = step_on (flood_to moment None lsa e.0 e.1) e.1.neighbor })
      (enumerate_from number links)) ≡ map (link_without key) links
  own_links moment lsa is number [] none = refl
  own_links moment lsa is number (link ∷ links) none =
      let both = or_parts (is_on_request_list key link.neighbor) (is_requested key links) none in
      let one = ap (λ (o : Option Neighbor). record link {
        neighbor = o;
      }) (on link.neighbor both.0) in
      let others = own_links moment lsa is (number + 1) links both.1 in
      λ i. one i ∷ others i
    where
      on : (o : Option Neighbor) → is_on_request_list key o ≡ false
          → neighbor_on_without key (step_on (flood_to moment None lsa number link) o)
          ≡ neighbor_on_without key o
      on None e = refl
      on (Some n) e = ap (λ (m : Neighbor). Some m)
          (apart.own_flooded key moment lsa is n
          (ap (finite.get n.requests) is ∙ no_value (finite.get n.requests key) e))

  abbrev AllOwn : Lsa → List Send → Type 0
  AllOwn lsa [] = Unit {0}
  AllOwn lsa (s ∷ sends) = (s.content ≡ Updates lsa) × AllOwn lsa sends

  both_own : (lsa : Lsa) (xs ys : List Send) → AllOwn lsa xs → AllOwn lsa ys → AllOwn lsa (xs ++ ys)
  both_own lsa [] ys one other = other
  both_own lsa (x ∷ xs) ys (is, one) other = (is, both_own lsa xs ys one other)

  step_own : (later gets satisfies_request : Bool) (moment : Moment) (lsa : Lsa) (number : ℕ)
      (n : Neighbor)
      → AllOwn lsa (sends_at number (apart.step_by key later gets satisfies_request moment lsa
      n).sends)
  step_own false gets satisfies_request moment lsa number n = tt
  step_own true true satisfies_request moment lsa number n = (refl, tt)
  step_own true false satisfies_request moment lsa number n = tt

  sends_own : (moment : Moment) (lsa : Lsa) (number : ℕ) (links : List Link)
      → AllOwn lsa (flat_map (λ (e : ℕ × Link). sends_at e.0
      (sent_on (flood_to moment None lsa e.0 e.1) e.1.neighbor)) (enumerate_from number links))
  sends_own moment lsa number [] = tt
  sends_own moment lsa number (link ∷ links) =
      both_own lsa (sends_at number (sent_on (flood_to moment None lsa number link) link.neighbor))
      _ (on link.neighbor) (sends_own moment lsa (number + 1) links)
    where
      on : (o : Option Neighbor) → AllOwn lsa
          (sends_at number (sent_on (flood_to moment None lsa number link) o))
      on None = tt
      on (Some n) = step_own (is_exchange_or_later n.state)
          (exceeds_request moment lsa (request_of n lsa))
          (satisfies_request moment lsa (request_of n lsa)) moment lsa number n

  own_marked : (moment : Moment) (lsa : Lsa) → lsa_key lsa ≡ key
      → (d : Database) (sends : List Send) → AllOwn lsa sends
      → apart.Agree key (apart.marked_all key moment d sends) d
  own_marked moment lsa is d [] own = λ q other. refl
  own_marked moment lsa is d (s ∷ sends) (content, own) =
      apart.joined key (apart.marked_all key moment (marked_database moment d s.content) sends)
      (marked_database moment d s.content) d
      (own_marked moment lsa is (marked_database moment d s.content) sends own)
      (subst (λ (c : Content). apart.Agree key (marked_database moment d c) d) (sym content)
      (apart.own_copy_agrees key (lsa_key lsa) is (λ c. record c { sent = Some moment }) d))

  -- the rest stays the same
  abbrev IsKept : AreaState → AreaState → Type 0
  IsKept x o =
      (map (link_without key) x.area.links ≡ map (link_without key) o.area.links)
      × (finite.remove x.area.database key ≡ finite.remove o.area.database key)
      × (sends_without key x.sends ≡ sends_without key o.sends)

  -- its own Link State Updates don't count
  own_unsent : (lsa : Lsa) → lsa_key lsa ≡ key → (sends : List Send) → AllOwn lsa sends
      → sends_without key sends ≡ []
  own_unsent lsa is [] own = refl
  own_unsent lsa is (s ∷ sends) (content, own) =
      let updated : updates key s.content ≡ true = ap (updates key) content
      ∙ ap (λ (k : Key). same_key k key) is ∙ rest.itself key key in
      ap (λ (b : Bool). cond (not b) (s ∷ sends_without key sends) (sends_without key sends))
      updated ∙ own_unsent lsa is sends own

  own_unsent_more : (lsa : Lsa) → lsa_key lsa ≡ key → (xs sends : List Send) → AllOwn lsa sends
      → sends_without key (xs ++ sends) ≡ sends_without key xs
  own_unsent_more lsa is [] sends own = own_unsent lsa is sends own
  own_unsent_more lsa is (x ∷ xs) sends own =
      let others = own_unsent_more lsa is xs sends own in
      λ i. cond (not (updates key x.content)) (x ∷ others i) (others i)

  own_flooded : (moment : Moment) (lsa : Lsa) → lsa_key lsa ≡ key → (o : AreaState)
      → NotRequested o.area.links → IsKept (flood_from_nobody moment lsa o) o
  own_flooded moment lsa is o none = (
    own_links moment lsa is 1 o.area.links none,
    apart.same_but key _ _ (own_marked moment lsa is o.area.database
        (stepping_sends (flood_to moment None lsa) o.area.links)
        (sends_own moment lsa 1 o.area.links)),
    own_unsent_more lsa is o.sends (stepping_sends (flood_to moment None lsa) o.area.links)
        (sends_own moment lsa 1 o.area.links),
  )

  own_flushed : (moment : Moment) (x : Option DatabaseCopy)
      → ((c : DatabaseCopy) → x ≡ Some c → lsa_key c.lsa ≡ key) → (o : AreaState)
      → NotRequested o.area.links → IsKept (flush_copy moment key x o) o
  own_flushed moment None under o none = (refl, refl, refl)
  own_flushed moment (Some c) under o none = by_age (is_aged_out moment c)
    where
      by_age : (b : Bool) → IsKept (cond b o
          (flood_from_nobody moment (lsa_with_age max_age c.lsa)
          (on_database (age_prematurely moment key) o)))
          o
      by_age true = (refl, refl, refl)
      by_age false =
          let kept = own_flooded moment (lsa_with_age max_age c.lsa) (under c refl)
          (on_database (age_prematurely moment key) o) none in (
            kept.0,
            kept.1 ∙ apart.same_but key _ _
                (apart.own_copy_agrees key key refl (λ c. record c {
                  lsa = lsa_with_age max_age c.lsa;
                  stored = moment;
                }) o.area.database),
            kept.2,
          )

  own_installed : (moment : Moment) (lsa : Lsa) → lsa_key lsa ≡ key → (o : AreaState)
      → NotRequested o.area.links → IsKept (install_and_flood moment lsa o) o
  own_installed moment lsa is o none =
      let d : Database = o.area.database in
      let copy : DatabaseCopy = record {
        lsa = lsa;
        stored = moment;
        received = None;
        sent = None;
      } in
      let kept = own_flooded moment lsa is (on_database (install_originated moment lsa) o) none in
      let P : Key → Type 0 = λ k. finite.remove (finite.insert d k copy) key
      ≡ finite.remove d key in (
        kept.0,
        kept.1 ∙ subst P (sym is)
            (apart.same_but key _ _ (apart.inserted_agrees key d copy)),
        kept.2,
      )

  -- ---- during an event

  abbrev cut : EventState → EventState
  cut = rest.cut key

  lifted : (f : AreaState → AreaState) (p : EventState) → IsKept (f (record {
    area = p.router.area;
    sends = p.sends;
  })) (record {
    area = p.router.area;
    sends = p.sends;
  }) → cut (on_area f p) ≡ cut p
  lifted f p kept = λ i. record {
    router = record p.router {
      area = record { links = kept.0 i; database = kept.1 i };
      announced = finite.remove p.router.announced key;
      waiting = set.remove p.router.waiting key;
      originated = finite.remove p.router.originated key;
    };
    sends = kept.2 i;
  }

  -- other announced destinations, and other times
  noted : (p : EventState) (announced : ByKey External) (waiting : KeySet)
      (originated : ByKey Moment) → apart.Agree key announced p.router.announced
      → ((q : Key) → same_key q key ≡ false → set.contains waiting q
      ≡ set.contains p.router.waiting q) → apart.Agree key originated p.router.originated
      → cut (on_router (λ (r : Router). record r {
        announced = announced;
        waiting = waiting;
        originated = originated;
      }) p) ≡ cut p
  noted p announced waiting originated one two three =
      let a = apart.same_but key announced p.router.announced one in
      let w = rest.same_set_but key waiting p.router.waiting two in
      let o = apart.same_but key originated p.router.originated three in
      λ i. record {
        router = record p.router {
          area = record {
            links = map (link_without key) p.router.area.links;
            database = finite.remove p.router.area.database key;
          };
          announced = a i;
          waiting = w i;
          originated = o i;
        };
        sends = sends_without key p.sends;
      }

  unchanged : {X : Type 0} (m : ByKey X) → apart.Agree key m m
  unchanged {X} m q other = refl

  removed_set : (s : KeySet) (q : Key) → same_key q key ≡ false → set.contains (set.remove s key) q
      ≡ set.contains s q
  removed_set s q other = set.contains-remove keys_total s key q
      ∙ ap (λ b. not b && set.contains s q) other

  inserted_set : (s : KeySet) (q : Key) → same_key q key ≡ false → set.contains (set.insert s key) q
      ≡ set.contains s q
  inserted_set s q other = set.contains-insert keys_total s key q
      ∙ ap (λ b. b || set.contains s q) other

  unannounced_ : (p : EventState) → cut (on_router (unannounce key) p) ≡ cut p
  unannounced_ p = noted p (finite.remove p.router.announced key) (set.remove p.router.waiting key)
      p.router.originated (apart.removed_agrees key p.router.announced)
      (removed_set p.router.waiting) (unchanged p.router.originated)

  announced_ : (e : External) (p : EventState) → cut (on_router (announce key e) p) ≡ cut p
  announced_ e p = noted p (finite.insert p.router.announced key e) p.router.waiting
      p.router.originated (apart.inserted_agrees key p.router.announced e) (λ q other. refl)
      (unchanged p.router.originated)

  originated_ : (moment : Moment) (p : EventState) → cut (on_router (as_originated moment key) p)
      ≡ cut p
  originated_ moment p = noted p p.router.announced (set.remove p.router.waiting key)
      (finite.insert p.router.originated key moment) (unchanged p.router.announced)
      (removed_set p.router.waiting) (apart.inserted_agrees key p.router.originated moment)

  waiting_ : (p : EventState) → cut (on_router (postpone key) p) ≡ cut p
  waiting_ p = noted p p.router.announced (set.insert p.router.waiting key) p.router.originated
      (unchanged p.router.announced) (inserted_set p.router.waiting) (unchanged p.router.originated)

  flush_kept : (moment : Moment) (p : EventState) → NotRequested p.router.area.links
      → IsUnderItsKey key p.router.area.database → cut (flush moment key p) ≡ cut p
  flush_kept moment p none under =
      lifted (flush_copy moment key (finite.get p.router.area.database key)) p
      (own_flushed moment (finite.get p.router.area.database key) under (record {
        area = p.router.area;
        sends = p.sends;
      }) none)

  one_of : (b : Bool) (x y p : EventState) → cut x ≡ cut p → cut y ≡ cut p → cut (cond b x y)
      ≡ cut p
  one_of true x y p one other = one
  one_of false x y p one other = other

  body_kept : (moment : Moment) (announced : Option External) (p : EventState)
      → NotRequested p.router.area.links → IsUnderItsKey key p.router.area.database
      → cut (originate_body true moment key (announced_body announced) p) ≡ cut p
  body_kept moment None p none under = refl
  body_kept moment (Some e) p none under =
      let says : LsaBody = external_body e in
      let copy = finite.get p.router.area.database key in
      let lsa : Lsa = new_instance key copy says in
      let placed : EventState = on_area (install_and_flood moment lsa) p in
      one_of (has_max_sequence copy) (flush moment key p)
      (cond (true && may_originate moment key p.router) (originate moment key says p)
      (on_router (postpone key) p)) p (flush_kept moment p none under)
      (one_of (true && may_originate moment key p.router) (originate moment key says p)
      (on_router (postpone key) p) p
      (originated_ moment placed ∙ lifted (install_and_flood moment lsa) p
      (own_installed moment lsa (new_key key is_external copy e) (record {
        area = p.router.area;
        sends = p.sends;
      }) none))
      (waiting_ p))

  -- ---- aging, before the event's own part

  abbrev Ready : Key → AreaState → Type 0
  Ready k o = NotRequested o.area.links × IsUnderItsKey key o.area.database
      × (finite.contains_key o.area.database k ≡ true)

  left_none : (b : Bool) → cond {A = Option ListEntry} b None None ≡ None
  left_none true = refl
  left_none false = refl

  still_none : (later gets satisfies_request : Bool) (moment : Moment) (lsa : Lsa) (n : Neighbor)
      → finite.get n.requests key ≡ None
      → is_some (finite.get (apart.step_by key later gets satisfies_request moment lsa
      n).neighbor.requests
      key) ≡ false
  still_none false gets satisfies_request moment lsa n none = ap is_some none
  still_none true true true moment lsa n none =
      ap is_some (finite.get-remove keys_total n.requests (lsa_key lsa) key
      ∙ ap (cond (same_key key (lsa_key lsa)) None) none
      ∙ left_none (same_key key (lsa_key lsa)))
  still_none true true false moment lsa n none = ap is_some none
  still_none true false true moment lsa n none =
      ap is_some (finite.get-remove keys_total n.requests (lsa_key lsa) key
      ∙ ap (cond (same_key key (lsa_key lsa)) None) none
      ∙ left_none (same_key key (lsa_key lsa)))
  still_none true false false moment lsa n none = ap is_some none

  still_not_requested : (moment : Moment) (lsa : Lsa) (number : ℕ) (links : List Link)
      → NotRequested links
      → NotRequested (map (λ (e : ℕ × Link). record e.1
      { neighbor = step_on (flood_to moment None lsa e.0 e.1) e.1.neighbor })
      (enumerate_from number links))
  still_not_requested moment lsa number [] none = refl
  still_not_requested moment lsa number (link ∷ links) none =
      let both = or_parts (is_on_request_list key link.neighbor) (is_requested key links) none in
      let one = on link.neighbor both.0 in
      let others = still_not_requested moment lsa (number + 1) links both.1 in
      λ i. one i || others i
    where
      on : (o : Option Neighbor) → is_on_request_list key o ≡ false
          → is_on_request_list key (step_on (flood_to moment None lsa number link) o) ≡ false
      on None e = refl
      on (Some n) e = still_none (is_exchange_or_later n.state)
          (exceeds_request moment lsa (request_of n lsa))
          (satisfies_request moment lsa (request_of n lsa)) moment lsa n
          (no_value (finite.get n.requests key) e)

  abbrev as_sent : Moment → DatabaseCopy → DatabaseCopy
  as_sent moment c = record c { sent = Some moment }

  under_by : (moment : Moment) (k : Key) (d : Database) (x : Option DatabaseCopy) → finite.get d k
      ≡ x → IsUnderItsKey key d → IsUnderItsKey key (changed_by k (as_sent moment) d x)
  under_by moment k d None there under = under
  under_by moment k d (Some c) there under =
      λ c' is. by_key c' (same_key key k) refl
      (sym (finite.get-insert keys_total d k (as_sent moment c) key) ∙ is)
    where
      by_key : (c' : DatabaseCopy) (b : Bool) → same_key key k ≡ b
          → cond b (Some (as_sent moment c)) (finite.get d key) ≡ Some c' → lsa_key c'.lsa ≡ key
      by_key c' true same it =
          let copy : as_sent moment c ≡ c' = let s : Some (as_sent moment c) ≡ Some c' = it in cc in
          let at : finite.get d key ≡ Some c = ap (finite.get d) (apart.tied_key key k same)
          ∙ there in
          ap (λ (z : DatabaseCopy). lsa_key z.lsa) (sym copy) ∙ under c at
      by_key c' false apart_ it = under c' it

  there_by : (moment : Moment) (k other : Key) (d : Database) (x : Option DatabaseCopy)
      → finite.contains_key d other ≡ true
      → finite.contains_key (changed_by k (as_sent moment) d x) other ≡ true
  there_by moment k other d None there = there
  there_by moment k other d (Some c) there =
      ap is_some (finite.get-insert keys_total d k (as_sent moment c) other)
      ∙ by_key (same_key other k)
    where
      by_key : (b : Bool) → is_some (cond b (Some (as_sent moment c)) (finite.get d other)) ≡ true
      by_key true = refl
      by_key false = there

  abbrev Good : Key → Database → Type 0
  Good other d = IsUnderItsKey key d × (finite.contains_key d other ≡ true)

  good_marked : (moment : Moment) (other : Key) (c : Content) (d : Database) → Good other d
      → Good other (marked_database moment d c)
  good_marked moment other (Content.SendsHello hello) d good = good
  good_marked moment other (Content.Describes description) d good = good
  good_marked moment other (Content.Requests keys) d good = good
  good_marked moment other (Content.Updates lsa) d good = (
    under_by moment (lsa_key lsa) d (finite.get d (lsa_key lsa)) refl good.0,
    there_by moment (lsa_key lsa) other d (finite.get d (lsa_key lsa)) good.1,
  )
  good_marked moment other (Content.Acknowledges header) d good = good

  good_all : (moment : Moment) (other : Key) (sends : List Send) (d : Database) → Good other d
      → Good other (apart.marked_all key moment d sends)
  good_all moment other [] d good = good
  good_all moment other (s ∷ sends) d good =
      good_all moment other sends (marked_database moment d s.content)
      (good_marked moment other s.content d good)

  ready_flooded : (moment : Moment) (other : Key) (lsa : Lsa) (o : AreaState) → Ready other o
      → Ready other (flood_from_nobody moment lsa o)
  ready_flooded moment other lsa o ready =
      let good = good_all moment other (stepping_sends (flood_to moment None lsa) o.area.links)
      o.area.database (ready.1, ready.2) in
      (still_not_requested moment lsa 1 o.area.links ready.0, good.0, good.1)

  ready_aged : (before moment : Moment) (other : Key) (entries : List (Key × DatabaseCopy))
      (o : AreaState) → Ready other o → Ready other (fold (flood_if_aged before moment) o entries)
  ready_aged before moment other [] o ready = ready
  ready_aged before moment other (e ∷ entries) o ready =
      ready_aged before moment other entries (flood_if_aged before moment o e)
      (by_age (has_just_aged_out before moment e.1))
    where
      by_age : (b : Bool) → Ready other (cond b (flood_from_nobody moment (lsa_now moment e.1) o) o)
      by_age true = ready_flooded moment other (lsa_now moment e.1) o ready
      by_age false = ready

-- ---- a `Redistribute`

own_part : (moment : Moment) (e : External) (tag price : ℕ) (p : EventState)
    → is_requested (external_key p.router.id e.prefix) p.router.area.links ≡ false
    → IsUnderItsKey (external_key p.router.id e.prefix) p.router.area.database
    → rest.cut (external_key p.router.id e.prefix) (after_redistribute moment e tag price p)
    ≡ rest.cut (external_key p.router.id e.prefix) p
own_part moment e tag price p none under =
    let k : Key = external_key p.router.id e.prefix in
    let x : External = answered_external e tag price in
    let q : EventState = on_router (announce k x) p in
    one_of k refl (nat_le ls_infinity price) (end_want moment k p) (announce_as moment k x p) p
    (flush_kept k refl moment (on_router (unannounce k) p) none under ∙ unannounced_ k refl p)
    (one_of k refl (is_announced_as x (finite.get p.router.announced k)) p
    (originate_anyway moment k q) p refl
    (body_kept k refl moment (finite.get q.router.announced k) q none under
    ∙ announced_ k refl x p))

apart_from_router : (id own : RouterNumber) (e : External)
    → same_key (router_key id) (external_key own e.prefix) ≡ false
apart_from_router id own e = refl

-- except for the key, the event does and sends what it would without it
half : (old : Router) (moment : Moment) (e : External) (tagged : External) (tag price : ℕ)
    (outs : List Out) (new : Router) → is_requested (external_key old.id e.prefix) old.area.links
    ≡ false → finite.contains_key old.area.database (router_key old.id) ≡ true
    → IsUnderItsKey (external_key old.id e.prefix) old.area.database
    → (event : Happens old moment (Occurrence.Redistribute tagged tag e price) outs new)
    → rest.cut (external_key old.id e.prefix) (end_event old moment event.after)
    ≡ rest.cut (external_key old.id e.prefix)
    (end_event old moment (rest.cut (external_key old.id e.prefix)
    (start_event moment old)))
half old moment e tagged tag price outs new none there under event =
    let k : Key = external_key old.id e.prefix in
    let rk : Key = router_key old.id in
    let p : EventState = start_event moment old in
    let ready = ready_aged k refl old.moment moment rk (finite.entries old.area.database) (record {
      area = old.area;
      sends = [];
    }) (none, under, there) in
    let own : rest.cut k event.after ≡ rest.cut k p = ap (rest.cut k) event.own
    ∙ own_part moment e tag price p ready.0 ready.1 in
    let id : event.after.router.id ≡ old.id = ap (λ (z : EventState). z.router.id) own in
    let out : (i : RouterNumber) → same_key (router_key i) k ≡ false =
    λ i. apart_from_router i old.id e in
    let left : (z : EventState) → finite.contains_key z.router.area.database rk
    ≡ finite.contains_key (rest.cut k z).router.area.database rk =
    λ z. ap is_some (sym (apart.removed_agrees k z.router.area.database rk (out old.id))) in
    let has : finite.contains_key event.after.router.area.database rk ≡ true =
    left event.after ∙ ap (λ (z : EventState). finite.contains_key z.router.area.database rk) own
    ∙ sym (left p) ∙ ready.2 in
    let P : RouterNumber → Type 0 = λ i. finite.contains_key event.after.router.area.database
    (router_key i) ≡ true in
    let end = rest.ended k out old moment event.after (subst P (sym id) has) in
    end ∙ ap (λ (z : EventState). rest.cut k (end_event old moment z)) own

pub answers_reach_one_destination : AnswersReachOneDestination
answers_reach_one_destination old moment e tagged others tag price another_tag another_price outs
    these new next none there under first second =
    let k : Key = external_key old.id e.prefix in
    let same : rest.cut k (end_event old moment first.after)
    ≡ rest.cut k (end_event old moment second.after) =
    half old moment e tagged tag price outs new none there under first
    ∙ sym (half old moment e others another_tag another_price these next none there under
    second) in (
      ap (router_without k) first.router ∙ ap (λ (z : EventState). z.router) same
          ∙ sym (ap (router_without k) second.router),
      ap (λ (z : EventState). z.sends) same,
    )
