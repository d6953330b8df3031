-- A Tick, a Withdraw, an Install and a LinkDown leave each list of a link as short as it has to be:
-- only a Packet puts LSAs on a request list, and delays acknowledgments.
use Rattle.std.proofs.Common.{◌≡◌, ◌≤◌, ℕ, ◌+◌, Bool, true, false, cond, not, ◌&&◌, ◌||◌, nat_lt}
use Rattle.std.proofs.Common.{List, [], ◌∷◌, map, Option, None, Some, refl, sym, ap, subst, ◌∙◌, arith}
use Rattle.std.specs.Prelude.{◌==◌, ◌-◌}
use Rattle.std.specs.List.{AllByRecursion, enumerate_from, fold, list_any}
use Rattle.std.specs.FinMap as finite
use Rattle.std.proofs.lemmas.Bool.{le-ltb, ltb-false, or_parts, or_from}
use Rattle.words.specs.declared.key.Key.{Key}
use Rattle.lsa.specs.declared.body.LsaBody.{LsaBody}
use Rattle.lsdb.specs.Copies.{Database, DatabaseCopy, age_prematurely, has_just_aged_out}
use Rattle.lsdb.specs.Copies.{install_originated, is_aged_out, lsa_now}
use Rattle.lsdb.specs.Headers.{Header, Lsa, lsa_with_age, lsa_key}
use Rattle.lsdb.specs.Instances.{ListEntry}
use Rattle.lsdb.specs.Keys.{ByKey, key_cmp}
use Rattle.lsdb.proofs.Keys.{keys_total}
use Rattle.packet.specs.declared.model.Description.{Description}
use Rattle.adjacency.specs.declared.interface.Interface.{Interface}
use Rattle.adjacency.specs.declared.state.NeighborState.{NeighborState}
use Rattle.adjacency.specs.declared.state.NeighborState.TheVariants.{Init, ExStart, Exchange}
use Rattle.adjacency.specs.declared.state.NeighborState.TheVariants.{Loading, Full}
use Rattle.adjacency.specs.Adjacencies.{after_inactivity_timer, enter_exstart, has_passed}
use Rattle.adjacency.specs.Adjacencies.{loading_done, loading_done_in, mismatch_step}
use Rattle.adjacency.specs.Adjacencies.{requests_nothing}
use Rattle.adjacency.specs.Contents.{Content, Requests, Step, Updates, no_sends}
use Rattle.adjacency.specs.Descriptions.{is_over_for, repeat, without_old_description}
use Rattle.adjacency.specs.Floods.{exceeds_request, flooded_in_exchange, flooding, request_of}
use Rattle.adjacency.specs.Floods.{satisfies_request, without_satisfied_request}
use Rattle.adjacency.specs.Neighbors.{Neighbor, is_exchange_or_later}
use Rattle.adjacency.specs.Requests.{is_to_request, next_request, request_next, still_outstanding}
use Rattle.adjacency.specs.Requests.{without_request}
use Rattle.adjacency.specs.Retransmissions.{add_retransmission, describe_again}
use Rattle.adjacency.specs.Retransmissions.{next_retransmissions, remove_retransmission}
use Rattle.adjacency.specs.Retransmissions.{repeats_description, request_again, send_again}
use Rattle.adjacency.specs.Retransmissions.{update_again}
use Rattle.adjacency.proofs.Kept.{chosen}
use Rattle.received.specs.Flooding.{flood_to, is_incoming}
use Rattle.received.specs.Links.{Link, fresh_link, has_long_list, requested_of, taken_down}
use Rattle.received.specs.AreaStates.{AreaState, Stepping, on_database, only_at, step_on}
use Rattle.event_rules.specs.Endings.{end_event, flood_if_aged, link_loading_done, loading_done_on}
use Rattle.event_rules.specs.Endings.{start_event}
use Rattle.event_rules.specs.Events.{OwnPart}
use Rattle.event_rules.specs.EventState.{EventState, flood_from_nobody, on_router}
use Rattle.event_rules.specs.Originations.{flush, flush_copy, has_max_sequence, has_room}
use Rattle.event_rules.specs.Originations.{may_originate, new_instance, originate, originate_body}
use Rattle.event_rules.specs.Originations.{originate_or_postpone, postpone, wanted_body}
use Rattle.event_rules.specs.Routers.{Occurrence, Router}
use Rattle.event_rules.specs.Ticks.{again, expire_timers, settled_exchange, with_hello_sent}
use Rattle.event_rules.specs.Ticks.{without_acknowledgments}
use Rattle.event_rules.proofs.Walk.{Brings, Invariant, IsKeptByParts, OfEvent, outcome}
use Rattle.invariants.specs.LimitLaws.{may_exceed}
use Rattle.invariants.proofs.EventWalk.{IsKeptToo, Lately, event_kept_too}

-- ---- a neighbor

abbrev Asks : Neighbor → Type 0
Asks n = finite.len n.requests ≤ 16384

abbrev AsksStep : Step → Type 0
AsksStep s = Asks s.neighbor

one_less : (b : Bool) (n : ℕ) → n ≤ 16384 → cond b (n - 1) n ≤ 16384
one_less true n h = omega (arith, h)
one_less false n h = h

met : (key : Key) (n : Neighbor) → Asks n → Asks (without_request key n)
met key n h =
    subst (λ m. m ≤ 16384) (sym (finite.len-remove keys_total n.requests key))
    (one_less (finite.contains_key n.requests key) (finite.len n.requests) h)

satisfied : (moment : ℕ) (lsa : Lsa) (n : Neighbor) → Asks n
    → Asks (without_satisfied_request moment lsa n)
satisfied moment lsa n h =
    chosen Asks (satisfies_request moment lsa (request_of n lsa)) (without_request (lsa_key lsa) n)
    n (λ is. met (lsa_key lsa) n h) (λ is. h)

flooded : (moment : ℕ) (came_in : Bool) (lsa : Lsa) (n : Neighbor) → Asks n
    → AsksStep (flooding moment came_in lsa n)
flooded moment came_in lsa n h =
    let m : Neighbor = without_satisfied_request moment lsa n in
    let k : Asks m = satisfied moment lsa n h in
    chosen AsksStep (is_exchange_or_later n.state) (flooded_in_exchange moment came_in lsa n)
    (no_sends n)
    (λ is. chosen AsksStep (not came_in && exceeds_request moment lsa (request_of n lsa)) (record {
      neighbor = add_retransmission moment lsa.header m;
      sends = Updates lsa ∷ [];
    }) (no_sends (remove_retransmission (lsa_key lsa) m)) (λ to. k) (λ not_to. k)) (λ is. h)

mismatched : (moment : ℕ) (n : Neighbor) → Asks n → AsksStep (mismatch_step moment n)
mismatched moment n h =
    chosen AsksStep (is_exchange_or_later n.state) (enter_exstart moment n) (no_sends n)
    (λ is. omega (arith, finite.len-empty key_cmp ListEntry)) (λ is. h)

asked : (moment : ℕ) (n : Neighbor) → Asks n → AsksStep (request_next moment n)
asked moment n h =
    chosen AsksStep (is_to_request n) (record {
      neighbor = record n { outstanding = _; requested_at = moment };
      sends = Requests (next_request n) ∷ [];
    }) (no_sends n) (λ is. h) (λ is. h)

loaded_in : (s : NeighborState) (n : Neighbor) → Asks n → Asks (loading_done_in s n)
loaded_in Init n h = h
loaded_in ExStart n h = h
loaded_in Exchange n h = h
loaded_in Loading n h =
    chosen Asks (requests_nothing n) (record n { state = Full }) n (λ is. h) (λ is. h)
loaded_in Full n h = h

repeated_of : (o : Option Description) (moment : ℕ) (n : Neighbor) → Asks n
    → AsksStep (repeat moment (record n { described = o }))
repeated_of None moment n h = h
repeated_of (Some d) moment n h = h

sent_again : (moment interval : ℕ) (db : Database) (n : Neighbor) → Asks n
    → AsksStep (send_again moment interval db n)
sent_again moment interval db n h = updated requested (requests described (describes n h))
  where
    described : Neighbor
    described = (describe_again moment interval n).neighbor

    requested : Neighbor
    requested = (request_again moment interval described).neighbor

    describes : (m : Neighbor) → Asks m → AsksStep (describe_again moment interval m)
    describes m k =
        chosen AsksStep
        (repeats_description m.state m.is_master && has_passed m.described_at interval moment)
        (repeat moment m) (no_sends m) (λ is. repeated_of m.described moment m k) (λ is. k)

    requests : (m : Neighbor) → Asks m → AsksStep (request_again moment interval m)
    requests m k =
        chosen AsksStep _ (record {
          neighbor = record m { requested_at = moment };
          sends = Requests (still_outstanding m) ∷ [];
        }) (no_sends m) (λ is. k) (λ is. k)

    updated : (m : Neighbor) → Asks m → AsksStep (update_again moment interval db m)
    updated m k =
        chosen AsksStep _ (record {
          neighbor = record m { retransmitted_at = moment };
          sends = map Updates (next_retransmissions moment db m);
        }) (no_sends m) (λ is. k) (λ is. k)

-- ---- links

abbrev AsksOn : Option Neighbor → Type 0
AsksOn o = requested_of o ≤ 16384

abbrev IsShort : Link → Type 0
IsShort link = AsksOn link.neighbor × (finite.len link.acknowledgments ≤ 32768)

abbrev pub AreShort : List Link → Type 0
AreShort links = AllByRecursion IsShort links

stepped : (f : Neighbor → Step) → ((n : Neighbor) → Asks n → AsksStep (f n))
    → (o : Option Neighbor) → AsksOn o → AsksOn (step_on f o)
stepped f keeps None h = h
stepped f keeps (Some n) h = keeps n h

all_stepped : (f : Stepping)
    → ((k : ℕ) (link : Link) (n : Neighbor) → Asks n → AsksStep (f k link n))
    → (first : ℕ) (links : List Link) → AreShort links
    → AreShort (map (λ (e : ℕ × Link). record e.1 { neighbor = step_on (f e.0 e.1) e.1.neighbor })
    (enumerate_from first links))
all_stepped f keeps first [] h = tt
all_stepped f keeps first (link ∷ links) h = (
  (stepped (f first link) (keeps first link) link.neighbor h.0.0, h.0.1),
  all_stepped f keeps (first + 1) links h.1,
)

all_mapped : (g : Link → Link) → ((link : Link) → IsShort link → IsShort (g link))
    → (links : List Link) → AreShort links → AreShort (map g links)
all_mapped g keeps [] h = tt
all_mapped g keeps (link ∷ links) h = (keeps link h.0, all_mapped g keeps links h.1)

all_changed : (number : ℕ) (g : Link → Link) → ((link : Link) → IsShort link → IsShort (g link))
    → (first : ℕ) (links : List Link) → AreShort links
    → AreShort (map (λ (e : ℕ × Link). cond (e.0 == number) (g e.1) e.1)
    (enumerate_from first links))
all_changed number g keeps first [] h = tt
all_changed number g keeps first (link ∷ links) h = (
  chosen IsShort (first == number) (g link) link (λ is. keeps link h.0) (λ is. h.0),
  all_changed number g keeps (first + 1) links h.1,
)

expired : (moment dead : ℕ) (o : Option Neighbor) → AsksOn o
    → AsksOn (settled_exchange moment dead (after_inactivity_timer moment dead o))
expired moment dead None h = h
expired moment dead (Some n) h =
    chosen (λ (o : Option Neighbor). AsksOn (settled_exchange moment dead o))
    (has_passed n.last_heard dead moment) None (Some n) (λ is. omega arith)
    (λ is. chosen Asks (is_over_for moment dead n.exchanged) (record n {
      described = None;
    }) n (λ over. h) (λ over. h))

loaded : (o : Option Neighbor) → AsksOn o → AsksOn (loading_done_on o)
loaded None h = h
loaded (Some n) h = loaded_in n.state n h

-- ---- links that a long list would make exceed

pub none_long : (links : List Link) → list_any has_long_list links ≡ false → AreShort links
none_long [] e = tt
none_long (link ∷ links) e =
    let both = or_parts (has_long_list link) (list_any has_long_list links) e in
    let its = or_parts (nat_lt 16384 (requested_of link.neighbor))
    (nat_lt 32768 (finite.len link.acknowledgments)) both.0 in (
      (
        ltb-false 16384 (requested_of link.neighbor) its.0,
        ltb-false 32768 (finite.len link.acknowledgments) its.1,
      ),
      none_long links both.1,
    )

pub not_long : (links : List Link) → AreShort links → list_any has_long_list links ≡ false
not_long [] h = refl
not_long (link ∷ links) h =
    or_from (has_long_list link) (list_any has_long_list links)
    (or_from (nat_lt 16384 (requested_of link.neighbor))
    (nat_lt 32768 (finite.len link.acknowledgments))
    (le-ltb 16384 (requested_of link.neighbor) h.0.0)
    (le-ltb 32768 (finite.len link.acknowledgments) h.0.1)) (not_long links h.1)

pub fresh_short : (interfaces : List Interface) → AreShort (map fresh_link interfaces)
fresh_short [] = tt
fresh_short (i ∷ is) = (
  (omega arith, omega (arith, finite.len-empty key_cmp Header)),
  fresh_short is,
)

-- ---- parts of an event

all_flooded : (moment : ℕ) (lsa : Lsa) (o : AreaState) → AreShort o.area.links
    → AreShort (flood_from_nobody moment lsa o).area.links
all_flooded moment lsa o h =
    all_stepped (flood_to moment None lsa)
    (λ k link n. flooded moment (is_incoming None k) lsa n) 1 o.area.links h

ages_short : (before moment : ℕ) (es : List (Key × DatabaseCopy)) (o : AreaState)
    → AreShort o.area.links → AreShort (fold (flood_if_aged before moment) o es).area.links
ages_short before moment [] o h = h
ages_short before moment (e ∷ es) o h =
    ages_short before moment es (flood_if_aged before moment o e)
    (chosen (λ (q : AreaState). AreShort q.area.links) (has_just_aged_out before moment e.1)
    (flood_from_nobody moment (lsa_now moment e.1) o) o
    (λ is. all_flooded moment (lsa_now moment e.1) o h) (λ is. h))

flushed_short : (moment : ℕ) (key : Key) (c : Option DatabaseCopy) (o : AreaState)
    → AreShort o.area.links → AreShort (flush_copy moment key c o).area.links
flushed_short moment key None o h = h
flushed_short moment key (Some c) o h =
    chosen (λ (q : AreaState). AreShort q.area.links) (is_aged_out moment c) o
    (flood_from_nobody moment (lsa_with_age 3600 c.lsa)
    (on_database (age_prematurely moment key) o)) (λ is. h)
    (λ is. all_flooded moment (lsa_with_age 3600 c.lsa)
    (on_database (age_prematurely moment key) o) h)

abbrev OfLinks : EventState → Type 0
OfLinks p = AreShort p.router.area.links

body_short : (may_now : Bool) (moment : ℕ) (key : Key) (says : Option LsaBody) (p : EventState)
    → OfLinks p → OfLinks (originate_body may_now moment key says p)
body_short may_now moment key None p h = h
body_short may_now moment key (Some says) p h =
    chosen OfLinks (has_max_sequence (finite.get p.router.area.database key)) (flush moment key p)
    (cond (may_now && may_originate moment key p.router) (originate moment key says p)
    (on_router (postpone key) p))
    (λ is. flushed_short moment key (finite.get p.router.area.database key) (outcome p) h)
    (λ is. chosen OfLinks (may_now && may_originate moment key p.router)
    (originate moment key says p) (on_router (postpone key) p)
    (λ may.
    let lsa : Lsa = new_instance key (finite.get p.router.area.database key) says in
    all_flooded moment lsa (on_database (install_originated moment lsa) (outcome p)) h)
    (λ may. h))

pub originated_short : (moment : ℕ) (key : Key) (p : EventState) → OfLinks p
    → OfLinks (originate_or_postpone moment key p)
originated_short moment key p h =
    body_short (has_room key p.router) moment key (wanted_body p.router key) p h

abbrev Short : Lately
Short o t = AreShort o.area.links

-- a Packet isn't among these events
other : {P : Type 0} (event : Occurrence) (number : ℕ) (bytes : List ℕ)
    → may_exceed event ≡ false → event ≡ Occurrence.Packet number bytes → P
other event number bytes may is = let no : true ≡ false = sym (ap may_exceed is) ∙ may in absurd cc

kept_too : (i : Invariant) (start : EventState) (moment : ℕ) (event : Occurrence)
    → may_exceed event ≡ false → IsKeptToo i Short Short start moment event
kept_too i start moment event may = record {
  flushes = λ key c o t is young h x. all_flooded moment (lsa_with_age 3600 c.lsa)
      (on_database (age_prematurely moment key) o) x;
  originates = λ key says p own is so wants h x.
      let lsa : Lsa = new_instance key (finite.get p.router.area.database key) says in
      all_flooded moment lsa (on_database (install_originated moment lsa) (outcome p)) x;
  case = λ number packet heard case lsa o t among body at h x.
      other event number heard.bytes may heard.is;
  hello = λ number packet hello heard is so x. other event number heard.bytes may heard.is;
  description = λ number packet d heard is so x. other event number heard.bytes may heard.is;
  acknowledgment = λ number packet headers heard is so x.
      other event number heard.bytes may heard.is;
  requested = λ number keys o t h x. x;
  mismatch = λ number o t h x. all_stepped (only_at number (mismatch_step moment))
      (λ k link n so. chosen AsksStep (k == number) (mismatch_step moment n) (record {
        neighbor = n;
        sends = [];
      }) (λ is. mismatched moment n so) (λ is. so)) 1 o.area.links x;
  forgets = λ r o h x. x;
  inactive = λ o t h x. all_mapped (expire_timers moment)
      (λ link so. (expired moment link.interface.dead_interval link.neighbor so.0, so.1))
      o.area.links x;
  again = λ o t h x. all_stepped (again moment o)
      (λ k link n so. sent_again moment link.interface.retransmit_interval o.area.database n so)
      1 o.area.links x;
  acknowledges = λ o t h x. all_mapped without_acknowledgments
      (λ link so. (so.0, omega (arith, finite.len-empty key_cmp Header))) o.area.links x;
  hellos = λ o t h x. all_mapped (with_hello_sent moment) (λ link so. (so.0, so.1)) o.area.links x;
  link_down = λ number o t h x. all_changed number taken_down (λ link so. (omega arith, so.1))
      1 o.area.links x;
  loaded = λ o t h x. all_mapped link_loading_done (λ link so. (loaded link.neighbor so.0, so.1))
      o.area.links x;
  requests = λ o t h x. all_stepped (λ number link n. request_next moment n)
      (λ k link n so. asked moment n so) 1 o.area.links x;
  removes = λ o t h x. x;
  stays = λ o t h x. x;
}

pub short_after : (i : Invariant) → IsKeptByParts i → (old : Router) (moment : ℕ)
    (event : Occurrence) → may_exceed event ≡ false → (after : EventState) → Brings i old event
    → OwnPart moment event (start_event moment old) after → OfEvent i (start_event moment old)
    → AreShort old.area.links → AreShort (end_event old moment after).router.area.links
short_after i kept old moment event may after brings own so short =
    event_kept_too i kept Short Short old moment event
    (kept_too i (start_event moment old) moment event may) after brings own so
    (ages_short old.moment moment (finite.entries old.area.database) (record {
      area = old.area;
      sends = [];
    }) short)
