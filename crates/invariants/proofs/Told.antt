-- A property of all that is held and sent, through complete events: if what is held before has it,
-- and so do the LSAs of the event's packet, and new instances of the router's own LSAs, then all
-- that is held after the event and all that is sent has it.
use Rattle.std.proofs.Common.{◌≡◌, ℕ, ◌+◌, false, List, [], ◌∷◌, map, length, Option, None, Some}
use Rattle.std.proofs.Common.{sym, subst, ◌∙◌, arith}
use Rattle.std.specs.FinMap as finite
use Rattle.std.specs.List.{AllByRecursion, enumerate_from, filter, flat_map, fold}
use Rattle.std.proofs.lemmas.List.{length-map}
use Rattle.words.specs.declared.key.Key.{Key}
use Rattle.words.specs.declared.route.External.{External}
use Rattle.lsa.specs.declared.body.LsaBody.{LsaBody}
use Rattle.lsdb.specs.Copies.{DatabaseCopy, age_prematurely, has_just_aged_out, install_originated}
use Rattle.lsdb.specs.Copies.{lsa_now}
use Rattle.lsdb.specs.Headers.{Header, Lsa, lsa_with_age, lsa_key}
use Rattle.packet.specs.declared.model.Hello.{Hello}
use Rattle.adjacency.specs.Adjacencies as adjacencies
use Rattle.adjacency.specs.Contents.{Content, Step as NeighborStep, no_sends}
use Rattle.adjacency.specs.Descriptions.{after_description}
use Rattle.adjacency.specs.Neighbors.{Neighbor}
use Rattle.adjacency.specs.Requests.{request_next}
use Rattle.adjacency.specs.Retransmissions.{after_acknowledgment}
use Rattle.adjacency.proofs.Kept.{chosen}
use Rattle.adjacency.proofs.Maps.{AllIn, IfThere, OfEntry, entries_in, inserted_in, none_in}
use Rattle.adjacency.proofs.Maps.{removed_in, retained_in}
use Rattle.adjacency.proofs.Told.{OfContent, OfCopy, OfOwedIfAny, OfStep, Telling}
use Rattle.adjacency.proofs.Told.{acknowledgment_told, again_told, copies_told, description_told}
use Rattle.adjacency.proofs.Told.{filled_told, hello_told, lsa_now_told, mismatched_told}
use Rattle.adjacency.proofs.Told.{old_description_told, quiet_told, request_told, still_heard_told}
use Rattle.adjacency.proofs.Told.{updates_told}
use Rattle.received.specs.Links.{Link, link_at, neighbor_on}
use Rattle.received.specs.AreaStates.{AreaState, sends_at, on_database, on_links, sends_of}
use Rattle.received.proofs.Told.{OfArea, OfLink, OfLinks, OfOutcome, OfSend, OfWaiting, case_told}
use Rattle.received.proofs.Told.{change_told, changed_told, each_link_told, each_told, flood_told}
use Rattle.received.proofs.Told.{numbered_told, on_database_told, on_links_told}
use Rattle.received.proofs.Told.{one_neighbor_told, one_told, sending_told}
use Rattle.received.proofs.Roomy.{joined}
use Rattle.event_rules.specs.Commands.{taken_down}
use Rattle.event_rules.specs.Endings.{start_event, link_loading_done, loading_done_on, end_event}
use Rattle.event_rules.specs.Endings.{stays}
use Rattle.event_rules.specs.Endings.{flood_if_aged}
use Rattle.event_rules.specs.Events.{OwnPart}
use Rattle.event_rules.specs.Hellos.{accepts, hello_is_due, hello_on, names}
use Rattle.event_rules.specs.Originations.{due_keys, external_key, has_max_sequence}
use Rattle.event_rules.specs.Originations.{install_and_flood}
use Rattle.event_rules.specs.Originations.{is_due, new_instance, originate_or_postpone, router_key}
use Rattle.event_rules.specs.Originations.{wanted_body, wanted_keys}
use Rattle.event_rules.specs.Packets.{accept_hello, receive_hello_on, requested_lsas, with_neighbor}
use Rattle.event_rules.specs.EventState.{EventState, flood_from_nobody}
use Rattle.event_rules.specs.Routers.{Occurrence, Router}
use Rattle.event_rules.specs.Ticks.{acknowledgments_on, again, with_hello_sent, hello_sent_on}
use Rattle.event_rules.specs.Ticks.{expire_timers}
use Rattle.event_rules.specs.Ticks.{settled_exchange, without_acknowledgments}
use Rattle.event_rules.proofs.Walk.{Brings, Invariant, IsKeptByParts, OfEvent, event_kept}
use Rattle.event_rules.proofs.Walk.{originate_or_wait_kept, outcome}

abbrev pub IsOwnKey : Telling → ℕ → Key → Type 0
IsOwnKey t id key = (key.advertising_router ≡ id) × t.of_key key

abbrev pub IsOwn : Telling → ℕ → Key → External → Type 0
IsOwn t id key e = IsOwnKey t id key

-- during an event of the router with this Router ID
abbrev pub told : Telling → ℕ → Invariant
told t id = record {
  of_area = λ a sends. OfArea t a sends;
  of_announced = λ own announced. (own ≡ id) × AllIn (IsOwn t id) announced;
  of_lsa = t.of_lsa;
  of_key = IsOwnKey t id;
  without_room = Unit {0};
}

-- a wanted LSA of a router with the given number of links, after a copy without MaxSequenceNumber
abbrev pub IsWanted : Telling → Key → Option DatabaseCopy → LsaBody → Type 0
IsWanted t key copy says =
    IfThere (OfCopy t) key copy × (has_max_sequence copy ≡ false)
    × ((r : Router) × (length r.area.links ≡ t.count) × (wanted_body r key ≡ Some says))

module _ (t : Telling) where
  -- ---- aging, and self-originated LSAs

  pub ages_told : (before moment : ℕ) (es : List (Key × DatabaseCopy)) (o : AreaState)
      → AllByRecursion (OfEntry (OfCopy t)) es → OfOutcome t o
      → OfOutcome t (fold (flood_if_aged before moment) o es)
  ages_told before moment [] o so h = h
  ages_told before moment (e ∷ es) o so h =
      ages_told before moment es (flood_if_aged before moment o e) so.1
      (chosen (OfOutcome t) (has_just_aged_out before moment e.1)
      (flood_from_nobody moment (lsa_now moment e.1) o) o
      (λ is. flood_told t moment None (lsa_now moment e.1) o (lsa_now_told t moment e.1 so.0) h)
      (λ is. h))

  pub flushed_told : (moment : ℕ) (key : Key) (c : DatabaseCopy) (o : AreaState)
      → finite.get o.area.database key ≡ Some c → OfOutcome t o
      → OfOutcome t (flood_from_nobody moment (lsa_with_age 3600 c.lsa)
      (on_database (age_prematurely moment key) o))
  flushed_told moment key c o is h =
      let so : IfThere (OfCopy t) key (Some c) = subst (IfThere (OfCopy t) key) is (h.copies key) in
      let old : OfOutcome t (on_database (age_prematurely moment key) o) =
      on_database_told t (age_prematurely moment key) o
      (changed_told t key (λ d. record d {
        lsa = lsa_with_age 3600 d.lsa;
        stored = moment;
      }) (λ d at. t.aged 3600 d.lsa (omega arith) at) o.area.database h.copies) h in
      flood_told t moment None (lsa_with_age 3600 c.lsa)
      (on_database (age_prematurely moment key) o)
      (t.aged 3600 c.lsa (omega arith) so) old

  -- ---- each link

  pub exchange_settled : (moment dead : ℕ) (o : Option Neighbor) → OfOwedIfAny t o
      → OfOwedIfAny t (settled_exchange moment dead o)
  exchange_settled moment dead None h = tt
  exchange_settled moment dead (Some n) h = old_description_told t moment dead n h

  pub each_link : (change : Link → Link) → ((link : Link) → OfLink t link → OfLink t (change link))
      → (o : AreaState) → OfOutcome t o → OfOutcome t (on_links (map change) o)
  each_link change keeps o h = on_links_told t (map change) o
      (each_link_told t change keeps o.area.links h.links) (length-map o.area.links change) h

  pub filled_on_told : (o : Option Neighbor) → OfOwedIfAny t o → OfOwedIfAny t (loading_done_on o)
  filled_on_told None h = tt
  filled_on_told (Some n) h = filled_told t n h

  -- ---- what each link sends by itself

  pub sends_told : (f : Link → List Content)
      → ((link : Link) → OfLink t link → AllByRecursion (OfContent t) (f link))
      → (k : ℕ) (xs : List Link) → OfLinks t xs
      → AllByRecursion (OfSend t) (flat_map (λ (e : ℕ × Link). sends_at e.0 (f e.1))
      (enumerate_from k xs))
  sends_told f each k [] h = tt
  sends_told f each k (x ∷ xs) h =
      joined (OfSend t) (sends_at k (f x))
      (flat_map (λ (e : ℕ × Link). sends_at e.0 (f e.1)) (enumerate_from (k + 1) xs))
      (numbered_told t k (f x) (each x h.0)) (sends_told f each (k + 1) xs h.1)

  pub acknowledgments_told : (es : List (Key × Header)) → AllByRecursion (OfEntry (OfWaiting t)) es
      → AllByRecursion (OfContent t) (map Content.Acknowledges (map (λ e. e.1) es))
  acknowledgments_told [] h = tt
  acknowledgments_told (e ∷ es) h = (h.0, acknowledgments_told es h.1)

  pub hello_told_on : (moment : ℕ) (link : Link)
      → AllByRecursion (OfContent t) (hello_sent_on moment link)
  hello_told_on moment link =
      chosen (AllByRecursion (OfContent t)) (hello_is_due moment link)
      (Content.SendsHello (hello_on link) ∷ []) [] (λ is. (tt, tt)) (λ is. tt)

  -- ---- a Hello

  pub hello_heard : (own moment number from : ℕ) (hello : Hello) (link : Option Link)
      (o : AreaState) → OfOwedIfAny t (neighbor_on link) → OfOutcome t o
      → OfOutcome t (receive_hello_on own moment number from hello link o)
  hello_heard own moment number from hello None o here h = h
  hello_heard own moment number from hello (Some link) o here h =
      let s : NeighborStep = adjacencies.after_hello moment from (names own hello) link.neighbor in
      let so : OfStep t s = hello_told t moment from (names own hello) link.neighbor here in
      chosen (OfOutcome t) (accepts own from hello link) (accept_hello moment number s o) o
      (λ is.
      sending_told t moment (sends_at number s.sends) _ (numbered_told t number s.sends so.sends)
      (change_told t number (with_neighbor s.neighbor) (λ l at. record {
        neighbor = so.neighbor;
        acknowledgments = at.acknowledgments;
      }) o h))
      (λ is. h)

module _ (t : Telling) (id : ℕ) (news : (key : Key) (copy : Option DatabaseCopy) (says : LsaBody)
    → IsOwnKey t id key → IsWanted t key copy says → t.of_lsa (new_instance key copy says))
    (router_told : t.of_key (router_key id)) where
  originated_told : (moment : ℕ) (key : Key) (says : LsaBody) (p : EventState) → IsOwnKey t id key
      → has_max_sequence (finite.get p.router.area.database key) ≡ false
      → wanted_body p.router key ≡ Some says → OfArea t p.router.area p.sends
      → OfOutcome t (install_and_flood moment
      (new_instance key (finite.get p.router.area.database key) says) (outcome p))
  originated_told moment key says p own goes wants h =
      let lsa : Lsa = new_instance key (finite.get p.router.area.database key) says in
      let so : t.of_lsa lsa = news key (finite.get p.router.area.database key) says own
      (h.copies key, goes, (p.router, h.few, wants)) in
      flood_told t moment None lsa (on_database (install_originated moment lsa) (outcome p)) so
      (on_database_told t (install_originated moment lsa) (outcome p)
      (inserted_in (OfCopy t) p.router.area.database (lsa_key lsa) (record {
        lsa = lsa;
        stored = moment;
        received = None;
        sent = None;
      }) h.copies so) h)

  -- ---- self-originated LSAs that are due

  keys_told : (es : List (Key × External)) → AllByRecursion (OfEntry (IsOwn t id)) es
      → AllByRecursion (IsOwnKey t id) (map (λ e. e.0) es)
  keys_told [] h = tt
  keys_told (e ∷ es) h = (h.0, keys_told es h.1)

  filtered_told : (moment : ℕ) (r : Router) (keys : List Key) → AllByRecursion (IsOwnKey t id) keys
      → AllByRecursion (IsOwnKey t id) (filter (is_due moment r) keys)
  filtered_told moment r [] h = tt
  filtered_told moment r (key ∷ keys) h =
      chosen (AllByRecursion (IsOwnKey t id)) (is_due moment r key)
      (key ∷ filter (is_due moment r) keys) (filter (is_due moment r) keys)
      (λ is. (h.0, filtered_told moment r keys h.1)) (λ is. filtered_told moment r keys h.1)

  due_told : (moment : ℕ) (r : Router) → r.id ≡ id → AllIn (IsOwn t id) r.announced
      → AllByRecursion (IsOwnKey t id) (due_keys moment r)
  due_told moment r same all =
      filtered_told moment r (wanted_keys r) (
        (same, subst (λ (i : ℕ). t.of_key (router_key i)) (sym same) router_told),
        keys_told (finite.entries r.announced) (entries_in (IsOwn t id) r.announced all),
      )

  -- ---- the parts, and the complete event

  parts_told : IsKeptByParts (told t id)
  parts_told = record {
    ages = λ before moment o h. ages_told t before moment (finite.entries o.area.database) o
        (entries_in (OfCopy t) o.area.database h.copies) h;
    flushes = λ moment key c o is young h. flushed_told t moment key c o is h;
    originates = λ moment key says p own goes wants grows h. originated_told moment key says p own
        goes wants h.area;
    own_router = λ r own. (
      own.0,
      subst (λ (i : ℕ). t.of_key (router_key i)) (sym own.0)
          router_told,
    );
    case = λ case moment number lsa so o h. case_told t case moment number lsa o so h;
    own_received = λ r lsa so is own. (is ∙ own.0, t.key lsa so);
    hello = λ own moment number from hello o h. hello_heard t own moment number from hello
        (link_at number o.area.links) o (one_told t number o.area.links h.links) h;
    description = λ own moment number d o h.
        one_neighbor_told t moment number (after_description own moment o.area.database d)
        (description_told t own moment o.area.database d h.copies) o h;
    requested = λ moment number keys o h.
        let lsas : List Lsa = requested_lsas moment o.area.database keys in
        sending_told t moment (sends_at number (map Content.Updates lsas)) o
        (numbered_told t number (map Content.Updates lsas)
        (updates_told t lsas (copies_told t moment o.area.database h.copies keys))) h;
    mismatch = λ moment number o h. one_neighbor_told t moment number
        (adjacencies.mismatch_step moment) (mismatched_told t moment) o h;
    acknowledgment = λ moment number headers o h.
        one_neighbor_told t moment number (λ n. no_sends (after_acknowledgment moment headers n))
        (λ n at. quiet_told t (after_acknowledgment moment headers n)
        (acknowledgment_told t moment headers n at)) o h;
    due = λ moment r own. due_told moment r own.0 own.1;
    inactive = λ moment o h.
        each_link t (expire_timers moment)
        (λ link at. record {
          neighbor = exchange_settled t moment link.interface.dead_interval
              (adjacencies.after_inactivity_timer moment link.interface.dead_interval link.neighbor)
              (still_heard_told t moment link.interface.dead_interval link.neighbor at.neighbor);
          acknowledgments = at.acknowledgments;
        }) o h;
    again = λ moment o h.
        each_told t moment (again moment o)
        (λ number link n at. again_told t moment link.interface.retransmit_interval
        o.area.database n h.copies at) o h;
    acknowledges = λ moment o h.
        sending_told t moment (sends_of acknowledgments_on o.area.links)
        (on_links (map without_acknowledgments) o)
        (sends_told t acknowledgments_on
        (λ link at. acknowledgments_told t (finite.entries link.acknowledgments)
        (entries_in (OfWaiting t) link.acknowledgments at.acknowledgments)) 1 o.area.links
        h.links)
        (each_link t without_acknowledgments (λ link at. record {
          neighbor = at.neighbor;
          acknowledgments = none_in (OfWaiting t);
        }) o h);
    hellos = λ moment o h.
        sending_told t moment (sends_of (hello_sent_on moment) o.area.links)
        (on_links (map (with_hello_sent moment)) o)
        (sends_told t (hello_sent_on moment) (λ link at. hello_told_on t moment link) 1 o.area.links
        h.links)
        (each_link t (with_hello_sent moment) (λ link at. record {
          neighbor = at.neighbor;
          acknowledgments = at.acknowledgments;
        }) o h);
    announces = λ r e own h. (
      h.0,
      inserted_in (IsOwn t id) r.announced (external_key r.id e.prefix)
          e h.1 own,
    );
    unannounces = λ r key h. (h.0, removed_in (IsOwn t id) r.announced key h.1);
    link_down = λ number o h. change_told t number taken_down (λ link at. record {
      neighbor = tt;
      acknowledgments = at.acknowledgments;
    }) o h;
    loaded = λ o h.
        each_link t link_loading_done (λ link at. record {
          neighbor = filled_on_told t link.neighbor at.neighbor;
          acknowledgments = at.acknowledgments;
        }) o h;
    requests = λ moment o h. each_told t moment (λ number link n. request_next moment n)
        (λ number link n at. request_told t moment n at) o h;
    removes = λ moment o h.
        on_database_told t (λ db. finite.retain_keys db (stays moment o.area)) o
        (retained_in (OfCopy t) o.area.database (stays moment o.area) h.copies) h;
  }

  -- the contents of the packet have the property
  pub event_told : (old : Router) (moment : ℕ) (event : Occurrence) (after : EventState)
      → Brings (told t id) old event → OwnPart moment event (start_event moment old) after
      → OfArea t old.area [] → old.id ≡ id → AllIn (IsOwn t id) old.announced
      → OfEvent (told t id) (end_event old moment after)
  event_told old moment event after brings own held same announced =
      event_kept (told t id) parts_told old moment event after brings own (record {
        area = held;
        announced = (same, announced);
      })

  pub first_told : (moment : ℕ) (p : EventState) → OfEvent (told t id) p
      → OfEvent (told t id) (originate_or_postpone moment (router_key p.router.id) p)
  first_told moment p h =
      originate_or_wait_kept (told t id) parts_told moment (router_key p.router.id) p
      (parts_told.own_router p.router h.announced) h
