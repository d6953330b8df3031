-- A second induction over an event, after its aging, that knows more at each part: the case of an
-- LSA, that MinLSInterval has passed for a self-originated LSA, and what the router has noted of
-- what it originated.
use Rattle.std.proofs.Common.{◌≡◌, ℕ, Bool, true, false, cond, not, ◌&&◌, ◌||◌, List, [], ◌∷◌, map}
use Rattle.std.proofs.Common.{Option, None, Some, refl, sym, subst}
use Rattle.std.specs.Prelude.{◌==◌, nat_le}
use Rattle.std.specs.List.{AllByRecursion, Contains, cons_option, filter_map, list_all}
use Rattle.std.specs.FinMap as finite
use Rattle.std.proofs.lemmas.Bool.{eqb-true, and_parts}
use Rattle.words.specs.Prefixes.{Network}
use Rattle.words.specs.declared.key.Key.{Key}
use Rattle.words.specs.declared.route.External.{External}
use Rattle.lsa.specs.Reading.{lsa_in}
use Rattle.lsa.specs.declared.body.LsaBody.{LsaBody}
use Rattle.lsdb.specs.Copies.{DatabaseCopy, age_prematurely, is_aged_out}
use Rattle.lsdb.specs.Headers.{Header, Lsa, lsa_with_age, lsa_key}
use Rattle.lsdb.specs.Keys.{ByKey}
use Rattle.packet.specs.declared.model.PacketBody.{PacketBody}
use Rattle.packet.specs.declared.model.PacketBody.TheVariants as body
use Rattle.packet.specs.declared.model.Description.{Description}
use Rattle.packet.specs.declared.model.Hello.{Hello}
use Rattle.packet.specs.declared.model.Packet.{Packet}
use Rattle.packet.specs.Text.{PacketText}
use Rattle.adjacency.specs.Adjacencies as adjacencies
use Rattle.adjacency.specs.Contents.{Content}
use Rattle.adjacency.specs.Neighbors.{Neighbor}
use Rattle.adjacency.proofs.Kept.{chosen}
use Rattle.received.specs.Cases.{Case}
use Rattle.received.specs.Links.{Link, any_exchange_or_loading, change_link, neighbor_at}
use Rattle.received.specs.AreaStates.{AreaState, sends_at, on_database, on_links, one_neighbor}
use Rattle.received.specs.AreaStates.{sending}
use Rattle.received.specs.Updates.{after_case, case_at, goes_on}
use Rattle.event_rules.specs.Commands.{after_redistribute, after_withdraw, announce, announce_as}
use Rattle.event_rules.specs.Commands.{answered_external, end_want, is_announced_as, is_for}
use Rattle.event_rules.specs.Commands.{ls_infinity, taken_down, unannounce}
use Rattle.event_rules.specs.Endings.{originate_router_lsa, postpone_router_lsa, start_event}
use Rattle.event_rules.specs.Endings.{link_loading_done, loading_done, end_event, is_current}
use Rattle.event_rules.specs.Endings.{links_differ, request_all, stays}
use Rattle.event_rules.specs.Events.{OwnPart}
use Rattle.event_rules.specs.Originations.{due_keys, external_key, flush, flush_copy}
use Rattle.event_rules.specs.Originations.{forget_originations, has_max_sequence, has_room}
use Rattle.event_rules.specs.Originations.{install_and_flood, may_originate, should_originate}
use Rattle.event_rules.specs.Originations.{new_instance, originate, originate_anyway}
use Rattle.event_rules.specs.Originations.{originate_body, originate_due, originate_or_flush}
use Rattle.event_rules.specs.Originations.{originate_or_postpone, postpone, receive_self_originated}
use Rattle.event_rules.specs.Originations.{router_key, wanted_body}
use Rattle.event_rules.specs.Packets.{after_lsa, after_lsas, after_packet, receive_acknowledgment}
use Rattle.event_rules.specs.Packets.{receive_hello, after_self_originated, after_parsed, case_in}
use Rattle.event_rules.specs.Packets.{receive_description, neighbor_is_exchange_or_later}
use Rattle.event_rules.specs.Packets.{after_heard}
use Rattle.event_rules.specs.Packets.{is_from, is_heard, is_hello, is_there, receive_request}
use Rattle.event_rules.specs.Packets.{requested_lsas}
use Rattle.event_rules.specs.EventState.{EventState, flood_from_nobody, on_area, on_router}
use Rattle.event_rules.specs.Routers.{Occurrence, Router}
use Rattle.event_rules.specs.Ticks.{after_tick, expire_timers, send_acknowledgments, send_hellos}
use Rattle.event_rules.specs.Ticks.{send_all_again}
use Rattle.event_rules.proofs.Walk.{Brings, IfRead, Invariant, IsKeptByParts, MayGrow, OfBrought}
use Rattle.event_rules.proofs.Walk.{OfBytes, OfEvent, OfOutcome, outcome}
use Rattle.invariants.specs.NewInstances.{BringsLsa, lsas_brought}
use Rattle.invariants.proofs.Lists.{later_is}
use Rattle.invariants.proofs.Taken.{named_first}

-- a packet that isn't discarded: unless it is a Hello, it is from the interface's neighbor
pub record IsHeard (start : EventState) (event : Occurrence) (number : ℕ) (packet : Packet) : Type 0
  where
    pub bytes : List ℕ
    pub is : event ≡ Occurrence.Packet number bytes
    pub text : PacketText bytes packet
    pub from : is_hello packet.body ≡ false
        → is_from packet.router (neighbor_at number start.router.area.links) ≡ true

-- an LSA of a packet that was heard comes with the event
pub came : {start : EventState} {event : Occurrence} {number : ℕ} {packet : Packet}
    → IsHeard start event number packet → (lsa : Lsa) → Contains (lsas_brought packet.body) lsa
    → BringsLsa event lsa
came {start} {event} {number} {packet} heard lsa among = record {
  interface = number;
  bytes = heard.bytes;
  packet = packet;
  is = heard.is;
  text = heard.text;
  among = among;
}

-- the property of the links, the database, what was sent and what was originated recently
abbrev pub Lately : Type 1
Lately = AreaState → ByKey ℕ → Type 0

abbrev pub KeepsToo : Invariant → Lately → (AreaState → AreaState) → Type 0
KeepsToo i X f = (o : AreaState) (t : ByKey ℕ) → OfOutcome i o → X o t → X (f o) t

pub record IsKeptToo (i : Invariant) (X Y : Lately) (start : EventState) (moment : ℕ)
    (event : Occurrence) : Type 0 where
  -- self-originated LSAs
  pub flushes : (key : Key) (c : DatabaseCopy) (o : AreaState) (t : ByKey ℕ)
      → finite.get o.area.database key ≡ Some c → is_aged_out moment c ≡ false → OfOutcome i o
      → X o t → X (flood_from_nobody moment (lsa_with_age 3600 c.lsa)
      (on_database (age_prematurely moment key) o)) t
  pub originates : (key : Key) (says : LsaBody) (p : EventState) → i.of_key key
      → has_max_sequence (finite.get p.router.area.database key) ≡ false
      → may_originate moment key p.router ≡ true → wanted_body p.router key ≡ Some says
      → OfEvent i p → X (outcome p) p.router.originated
      → X (install_and_flood moment
      (new_instance key (finite.get p.router.area.database key) says) (outcome p))
      (finite.insert p.router.originated key moment)
  -- packets
  pub case : (number : ℕ) (packet : Packet) → IsHeard start event number packet
      → (case : Case) (lsa : Lsa) (o : AreaState) (t : ByKey ℕ)
      → Contains (lsas_brought packet.body) lsa → is_hello packet.body ≡ false
      → case_at moment number lsa o.area ≡ case → OfOutcome i o → X o t
      → X (after_case case moment number lsa o) t
  pub hello : (number : ℕ) (packet : Packet) (h : Hello) → IsHeard start event number packet
      → packet.body ≡ body.Hello h → OfEvent i start → X (outcome start) start.router.originated
      → X (receive_hello start.router.id moment number packet.router h (outcome start))
      start.router.originated
  pub description : (number : ℕ) (packet : Packet) (d : Description)
      → IsHeard start event number packet → packet.body ≡ body.Description d → OfEvent i start
      → X (outcome start) start.router.originated
      → X (receive_description start.router.id moment number d (outcome start))
      start.router.originated
  pub acknowledgment : (number : ℕ) (packet : Packet) (headers : List Header)
      → IsHeard start event number packet → packet.body ≡ body.Acknowledgment headers
      → OfEvent i start → X (outcome start) start.router.originated
      → X (receive_acknowledgment moment number headers (outcome start)) start.router.originated
  pub requested : (number : ℕ) (keys : List Key) (o : AreaState) (t : ByKey ℕ) → OfOutcome i o
      → X o t → X (sending moment (sends_at number
      (map Content.Updates (requested_lsas moment o.area.database keys))) o) t
  pub mismatch : (number : ℕ) → KeepsToo i X
      (one_neighbor moment number (adjacencies.mismatch_step moment))
  -- a Tick
  pub forgets : (r : Router) (o : AreaState) → OfOutcome i o → X o r.originated
      → X o (forget_originations moment r).originated
  pub inactive : KeepsToo i X (on_links (map (expire_timers moment)))
  pub again : KeepsToo i X (send_all_again moment)
  pub acknowledges : KeepsToo i X (send_acknowledgments moment)
  pub hellos : KeepsToo i X (send_hellos moment)
  -- a command
  pub link_down : (number : ℕ) → KeepsToo i X (on_links (change_link number taken_down))
  -- the end
  pub loaded : KeepsToo i X (on_links (map link_loading_done))
  pub requests : KeepsToo i X (request_all moment)
  pub removes : (o : AreaState) (t : ByKey ℕ) → OfOutcome i o → X o t
      → Y (on_database (λ db. finite.retain_keys db (stays moment o.area)) o) t
  pub stays : (o : AreaState) (t : ByKey ℕ) → OfOutcome i o → X o t → Y o t

module _ (i : Invariant) (kept : IsKeptByParts i) (X Y : Lately) (old : Router) (moment : ℕ)
    (event : Occurrence)
    (too : IsKeptToo i X Y (start_event moment old) moment event) where
  abbrev start : EventState
  start = start_event moment old

  record InProgress (p : EventState) : Type 0 where
    so : OfEvent i p
    lately : X (outcome p) p.router.originated

  on_area_kept : (f : AreaState → AreaState) (p : EventState)
      → (i.of_area p.router.area p.sends → OfOutcome i (f (outcome p)))
      → (i.of_area p.router.area p.sends → X (outcome p) p.router.originated
      → X (f (outcome p)) p.router.originated) → InProgress p → InProgress (on_area f p)
  on_area_kept f p keeps lately h = record {
    so = record { area = keeps h.so.area; announced = h.so.announced };
    lately = lately h.so.area h.lately;
  }

  -- ---- self-originated LSAs

  copy_flushed : (key : Key) (c : Option DatabaseCopy) (o : AreaState)
      → finite.get o.area.database key ≡ c → OfOutcome i o → OfOutcome i (flush_copy moment key c o)
  copy_flushed key None o is h = h
  copy_flushed key (Some c) o is h =
      chosen (OfOutcome i) (is_aged_out moment c) o
      (flood_from_nobody moment (lsa_with_age 3600 c.lsa)
      (on_database (age_prematurely moment key) o))
      (λ aged. h) (λ young. kept.flushes moment key c o is young h)

  copy_flushed_too : (key : Key) (c : Option DatabaseCopy) (o : AreaState) (t : ByKey ℕ)
      → finite.get o.area.database key ≡ c → OfOutcome i o → X o t → X (flush_copy moment key c o) t
  copy_flushed_too key None o t is h x = x
  copy_flushed_too key (Some c) o t is h x =
      chosen (λ (q : AreaState). X q t) (is_aged_out moment c) o
      (flood_from_nobody moment (lsa_with_age 3600 c.lsa)
      (on_database (age_prematurely moment key) o))
      (λ aged. x) (λ young. too.flushes key c o t is young h x)

  flush_kept : (key : Key) (p : EventState) → InProgress p → InProgress (flush moment key p)
  flush_kept key p h =
      on_area_kept (flush_copy moment key (finite.get p.router.area.database key)) p
      (λ a. copy_flushed key (finite.get p.router.area.database key) (outcome p) refl a)
      (λ a x. copy_flushed_too key (finite.get p.router.area.database key) (outcome p)
      p.router.originated refl a x) h

  waits_kept : (key : Key) (p : EventState) → InProgress p → InProgress (on_router (postpone key) p)
  waits_kept key p h = record {
    so = record { area = h.so.area; announced = h.so.announced };
    lately = h.lately;
  }

  body_kept : (may_now : Bool) (key : Key) (says : Option LsaBody) (p : EventState) → i.of_key key
      → wanted_body p.router key ≡ says → (may_now ≡ true → MayGrow i key p.router) → InProgress p
      → InProgress (originate_body may_now moment key says p)
  body_kept may_now key None p own wants grows h = h
  body_kept may_now key (Some says) p own wants grows h =
      chosen InProgress (has_max_sequence (finite.get p.router.area.database key))
      (flush moment key p)
      (cond (may_now && may_originate moment key p.router) (originate moment key says p)
      (on_router (postpone key) p))
      (λ is. flush_kept key p h)
      (λ is. chosen InProgress (may_now && may_originate moment key p.router)
      (originate moment key says p) (on_router (postpone key) p)
      (λ may.
      let both = and_parts may_now (may_originate moment key p.router) may in
      record {
        so = record {
          area = kept.originates moment key says p own is wants (grows both.0) h.so;
          announced = h.so.announced;
        };
        lately = too.originates key says p own is both.1 wants h.so h.lately;
      })
      (λ may. waits_kept key p h))

  originate_or_wait_kept : (key : Key) (p : EventState) → i.of_key key → InProgress p
      → InProgress (originate_or_postpone moment key p)
  originate_or_wait_kept key p own h =
      body_kept (has_room key p.router) key (wanted_body p.router key) p own refl
      (λ is. MayGrow.HasRoom is) h

  due_kept : (keys : List Key) (p : EventState) → AllByRecursion i.of_key keys → InProgress p
      → InProgress (originate_due moment keys p)
  due_kept [] p own h = h
  due_kept (key ∷ keys) p own h = due_kept keys (originate_or_postpone moment key p) own.1
      (originate_or_wait_kept key p own.0 h)

  wanted_settled : (b : Bool) (key : Key) (p : EventState) → i.of_key key → InProgress p
      → InProgress (originate_or_flush b moment key p)
  wanted_settled true key p own h = originate_or_wait_kept key p own h
  wanted_settled false key p own h = flush_kept key p h

  own_settled : (lsa : Lsa) (p : EventState) → i.of_lsa lsa → InProgress p
      → InProgress (receive_self_originated moment lsa p)
  own_settled lsa p so h =
      let wanted : Bool = should_originate (wanted_body p.router (lsa_key lsa)) in
      chosen InProgress (lsa.header.advertising_router == p.router.id)
      (originate_or_flush wanted moment (lsa_key lsa) p) p
      (λ is. wanted_settled wanted (lsa_key lsa) p
      (kept.own_received p.router lsa so (eqb-true lsa.header.advertising_router p.router.id is)
      h.so.announced) h) (λ is. h)

  -- ---- packets

  settled : (case : Case) (lsa : Lsa) (p : EventState) → i.of_lsa lsa → InProgress p
      → InProgress (after_self_originated case moment lsa p)
  settled Case.Unreadable lsa p so h = h
  settled Case.NothingToFlush lsa p so h = h
  settled Case.TooSoon lsa p so h = h
  settled Case.Newer lsa p so h = own_settled lsa p so h
  settled Case.BadRequest lsa p so h = h
  settled Case.ImpliedAcknowledgment lsa p so h = h
  settled Case.Duplicate lsa p so h = h
  settled Case.SequenceWraps lsa p so h = h
  settled Case.SentJustNow lsa p so h = h
  settled Case.Older lsa p so h = h

  module _ (number : ℕ) (packet : Packet) (heard : IsHeard start event number packet) where
    lsa_kept : (lsa : Lsa) (p : EventState) → Contains (lsas_brought packet.body) lsa
        → is_hello packet.body ≡ false → i.of_lsa lsa → InProgress p
        → InProgress (after_lsa (case_at moment number lsa p.router.area) moment number lsa p)
    lsa_kept lsa p among other so h =
        let case : Case = case_at moment number lsa p.router.area in
        settled case lsa (on_area (after_case case moment number lsa) p) so
        (on_area_kept (after_case case moment number lsa) p
        (λ a. kept.case case moment number lsa so (outcome p) a)
        (λ a x. too.case number packet heard case lsa (outcome p) p.router.originated among other
        refl a x) h)

    unread_kept : (o : Option Lsa) (p : EventState) → IfRead (Contains (lsas_brought packet.body)) o
        → is_hello packet.body ≡ false → IfRead i.of_lsa o → InProgress p
        → InProgress (after_parsed moment number o p)
    unread_kept None p among other so h = h
    unread_kept (Some lsa) p among other so h = lsa_kept lsa p among other so h

    lsas_kept : (lsas : List (List ℕ)) (p : EventState)
        → AllByRecursion (OfBytes (Contains (lsas_brought packet.body))) lsas
        → is_hello packet.body ≡ false → AllByRecursion (OfBytes i.of_lsa) lsas → InProgress p
        → InProgress (after_lsas moment number lsas p)
    lsas_kept [] p among other so h = h
    lsas_kept (bytes ∷ rest) p among other so h =
        let q : EventState = after_parsed moment number (lsa_in bytes) p in
        let then_so : InProgress q = unread_kept (lsa_in bytes) p among.0 other so.0 h in
        chosen InProgress (goes_on (case_in moment number (lsa_in bytes) p))
        (after_lsas moment number rest q) q (λ is. lsas_kept rest q among.1 other so.1 then_so)
        (λ is. then_so)

    requests_answered : (keys : List Key) (o : AreaState) → OfOutcome i o
        → OfOutcome i (receive_request moment number keys o)
    requests_answered keys o h =
        chosen (OfOutcome i) (list_all (is_there o.area.database) keys)
        (sending moment (sends_at number
        (map Content.Updates (requested_lsas moment o.area.database keys))) o)
        (one_neighbor moment number (adjacencies.mismatch_step moment) o)
        (λ is. kept.requested moment number keys o h) (λ is. kept.mismatch moment number o h)

    requests_answered_too : (keys : List Key) (o : AreaState) (t : ByKey ℕ) → OfOutcome i o → X o t
        → X (receive_request moment number keys o) t
    requests_answered_too keys o t h x =
        chosen (λ (q : AreaState). X q t) (list_all (is_there o.area.database) keys)
        (sending moment (sends_at number
        (map Content.Updates (requested_lsas moment o.area.database keys))) o)
        (one_neighbor moment number (adjacencies.mismatch_step moment) o)
        (λ is. too.requested number keys o t h x) (λ is. too.mismatch number o t h x)

  -- the LSAs of a Link State Update that can be parsed are among them
  among_more : (x : Option Lsa) (xs : List Lsa) (lsa : Lsa) → Contains xs lsa
      → Contains (cons_option x xs) lsa
  among_more None xs lsa c = c
  among_more (Some y) xs lsa c = later_is y xs lsa c

  first_among : (x : Option Lsa) (xs : List Lsa) → IfRead (Contains (cons_option x xs)) x
  first_among None xs = tt
  first_among (Some y) xs = named_first y xs y refl

  read_more : (all : List Lsa) (x : Option Lsa) (more : List Lsa)
      → ((lsa : Lsa) → Contains all lsa → Contains more lsa) → IfRead (Contains all) x
      → IfRead (Contains more) x
  read_more all None more so h = tt
  read_more all (Some lsa) more so h = so lsa h

  all_more : (all more : List Lsa) → ((lsa : Lsa) → Contains all lsa → Contains more lsa)
      → (lsas : List (List ℕ)) → AllByRecursion (OfBytes (Contains all)) lsas
      → AllByRecursion (OfBytes (Contains more)) lsas
  all_more all more so [] h = tt
  all_more all more so (bytes ∷ rest) h =
      (read_more all (lsa_in bytes) more so h.0, all_more all more so rest h.1)

  all_among : (lsas : List (List ℕ))
      → AllByRecursion (OfBytes (Contains (filter_map lsa_in lsas))) lsas
  all_among [] = tt
  all_among (bytes ∷ rest) = (
    first_among (lsa_in bytes) (filter_map lsa_in rest),
    all_more (filter_map lsa_in rest) (cons_option (lsa_in bytes) (filter_map lsa_in rest))
        (λ lsa c. among_more (lsa_in bytes) (filter_map lsa_in rest) lsa c) rest (all_among rest),
  )

  from_neighbor_kept : (number from : ℕ) (b : PacketBody) → IsHeard start event number (record {
    router = from;
    body = b;
  }) → (in_exchange : Bool) → OfBrought i.of_lsa b → InProgress start
      → InProgress (after_heard moment number from in_exchange b start)
  from_neighbor_kept number from (body.Hello h) heard in_exchange so p =
      on_area_kept (receive_hello start.router.id moment number from h) start
      (λ a. kept.hello start.router.id moment number from h (outcome start) a)
      (λ a x. too.hello number (record {
        router = from;
        body = body.Hello h;
      }) h heard refl p.so x) p
  from_neighbor_kept number from (body.Description d) heard in_exchange so p =
      on_area_kept (receive_description start.router.id moment number d) start
      (λ a. kept.description start.router.id moment number d (outcome start) a)
      (λ a x. too.description number (record {
        router = from;
        body = body.Description d;
      }) d heard refl p.so x) p
  from_neighbor_kept number from (body.Request keys) heard in_exchange so p =
      chosen InProgress in_exchange (on_area (receive_request moment number keys) start) start
      (λ is. on_area_kept (receive_request moment number keys) start
      (λ a. requests_answered number (record {
        router = from;
        body = body.Request keys;
      }) heard keys (outcome start) a)
      (λ a x. requests_answered_too number (record {
        router = from;
        body = body.Request keys;
      }) heard keys (outcome start) start.router.originated a x) p) (λ is. p)
  from_neighbor_kept number from (body.Update lsas) heard in_exchange so p =
      chosen InProgress in_exchange (after_lsas moment number lsas start) start
      (λ is. lsas_kept number (record {
        router = from;
        body = body.Update lsas;
      }) heard lsas start (all_among lsas) refl so p) (λ is. p)
  from_neighbor_kept number from (body.Acknowledgment headers) heard in_exchange so p =
      chosen InProgress in_exchange (on_area (receive_acknowledgment moment number headers) start)
      start
      (λ is. on_area_kept (receive_acknowledgment moment number headers) start
      (λ a. kept.acknowledgment moment number headers (outcome start) a)
      (λ a x. too.acknowledgment number (record {
        router = from;
        body = body.Acknowledgment headers;
      }) headers heard refl p.so x) p) (λ is. p)

  or_not : (a b c : Bool) → (a && (b || c)) ≡ true → b ≡ false → c ≡ true
  or_not true b c e other = subst (λ x. (x || c) ≡ true) other e
  or_not false b c e other = absurd cc

  packet_kept : (number : ℕ) (bytes : List ℕ) (packet : Packet)
      → event ≡ Occurrence.Packet number bytes → PacketText bytes packet
      → OfBrought i.of_lsa packet.body → InProgress start
      → InProgress (after_packet moment number packet start)
  packet_kept number bytes packet is text so h =
      let n : Option Neighbor = neighbor_at number start.router.area.links in
      chosen InProgress (is_heard start.router.id packet n)
      (after_heard moment number packet.router (neighbor_is_exchange_or_later n) packet.body
      start) start
      (λ heard. from_neighbor_kept number packet.router packet.body
      (record {
        bytes = bytes;
        is = is;
        text = text;
        from = λ other. or_not _ (is_hello packet.body) (is_from packet.router n) heard other;
      }) (neighbor_is_exchange_or_later n) so h) (λ heard. h)

  -- ---- a Tick

  tick_kept : InProgress start → InProgress (after_tick moment start)
  tick_kept h =
      let no_sends : EventState = on_router (forget_originations moment)
      (on_area (on_links (map (expire_timers moment))) start) in
      let renewed : EventState = originate_due moment (due_keys moment no_sends.router) no_sends in
      let settled_area = kept.inactive moment (outcome start) h.so.area in
      let still : InProgress no_sends = record {
        so = record { area = settled_area; announced = h.so.announced };
        lately = too.forgets start.router (on_links (map (expire_timers moment)) (outcome start))
            settled_area (too.inactive (outcome start) start.router.originated h.so.area h.lately);
      } in
      let so : InProgress renewed = due_kept (due_keys moment no_sends.router) no_sends
      (kept.due moment no_sends.router still.so.announced) still in
      let o : AreaState = outcome renewed in
      let t : ByKey ℕ = renewed.router.originated in
      let again : OfOutcome i (send_all_again moment o) = kept.again moment o so.so.area in
      let again_too : X (send_all_again moment o) t = too.again o t so.so.area so.lately in
      let acknowledged : OfOutcome i (send_acknowledgments moment (send_all_again moment o)) =
      kept.acknowledges moment (send_all_again moment o) again in
      let acknowledged_too : X (send_acknowledgments moment (send_all_again moment o)) t =
      too.acknowledges (send_all_again moment o) t again again_too in
      record {
        so = record {
          area = kept.hellos moment (send_acknowledgments moment (send_all_again moment o))
              acknowledged;
          announced = so.so.announced;
        };
        lately = too.hellos (send_acknowledgments moment (send_all_again moment o)) t acknowledged
            acknowledged_too;
      }

  -- ---- the event's own part

  want_ended : (key : Key) (p : EventState) → InProgress p → InProgress (end_want moment key p)
  want_ended key p h =
      flush_kept key (on_router (unannounce key) p) (record {
        so = record { area = h.so.area; announced = kept.unannounces p.router key h.so.announced };
        lately = h.lately;
      })

  announced_kept : (e : External) (p : EventState) → i.of_key (external_key p.router.id e.prefix)
      → i.without_room → InProgress p → InProgress
      (announce_as moment (external_key p.router.id e.prefix) e p)
  announced_kept e p own anyway h =
      let key : Key = external_key p.router.id e.prefix in
      let q : EventState = on_router (announce key e) p in
      let so : InProgress q = record {
        so = record { area = h.so.area; announced = kept.announces p.router e own h.so.announced };
        lately = h.lately;
      } in
      chosen InProgress (is_announced_as e (finite.get p.router.announced key)) p
      (originate_anyway moment key q) (λ is. h)
      (λ is. body_kept true key (wanted_body q.router key) q own refl (λ may. MayGrow.Anyway anyway)
      so)

  redistributed : (e : External) (tag price : ℕ) (p : EventState)
      → i.of_key (external_key p.router.id e.prefix) → i.without_room → InProgress p
      → InProgress (after_redistribute moment e tag price p)
  redistributed e tag price p own anyway h =
      let key : Key = external_key p.router.id e.prefix in
      chosen InProgress (nat_le ls_infinity price) (end_want moment key p)
      (announce_as moment key (answered_external e tag price) p)
      (λ is. want_ended key p h) (λ is. announced_kept (answered_external e tag price) p own anyway
      h)

  withdrawn : (prefix : Network) (p : EventState) → InProgress p
      → InProgress (after_withdraw moment prefix p)
  withdrawn prefix p h =
      let key : Key = external_key p.router.id prefix in
      chosen InProgress (is_for prefix (finite.get p.router.announced key)) (end_want moment key p)
      p (λ is. want_ended key p h) (λ is. h)

  own_kept : (e : Occurrence) (after : EventState) → event ≡ e → Brings i old event
      → OwnPart moment e start after → InProgress start → InProgress after
  own_kept (Occurrence.Packet number bytes) after same brings is h =
      subst InProgress (sym is.2) (packet_kept number bytes is.0 same is.1
      (brings.packet number bytes is.0 same is.1) h)
  own_kept Occurrence.Tick after same brings is h = subst InProgress (sym is) (tick_kept h)
  own_kept (Occurrence.Redistribute tagged tag priced price) after same brings is h =
      let its : i.of_key (external_key old.id priced.prefix) × i.without_room =
      brings.key tagged tag priced price same in
      subst InProgress (sym is) (redistributed priced tag price start its.0 its.1 h)
  own_kept (Occurrence.Withdraw prefix) after same brings is h =
      subst InProgress (sym is) (withdrawn prefix start h)
  own_kept (Occurrence.Install answers) after same brings is h = subst InProgress (sym is) (record {
    so = record { area = h.so.area; announced = h.so.announced };
    lately = h.lately;
  })
  own_kept (Occurrence.LinkDown number) after same brings is h =
      subst InProgress (sym is) (record {
        so = record {
          area = kept.link_down number (outcome start) h.so.area;
          announced = h.so.announced;
        };
        lately = too.link_down number (outcome start) start.router.originated h.so.area h.lately;
      })

  -- ---- the end

  all_loaded : (p : EventState) → InProgress p → InProgress (loading_done p)
  all_loaded p h = record {
    so = record { area = kept.loaded (outcome p) h.so.area; announced = h.so.announced };
    lately = too.loaded (outcome p) p.router.originated h.so.area h.lately;
  }

  described : (before : List Link) (p : EventState) → InProgress p
      → InProgress (originate_router_lsa before moment p)
  described before p h =
      chosen InProgress (links_differ before p.router.area.links && not
      (is_current moment p.router)) (originate_or_postpone moment (router_key p.router.id) p) p
      (λ is. originate_or_wait_kept (router_key p.router.id) p
      (kept.own_router p.router h.so.announced) h) (λ is. h)

  described_later : (before : List Link) (p : EventState) → InProgress p
      → InProgress (postpone_router_lsa before p)
  described_later before p h =
      chosen InProgress (links_differ before p.router.area.links)
      (on_router (postpone (router_key p.router.id)) p) p
      (λ is. waits_kept (router_key p.router.id) p h) (λ is. h)

  pub event_kept_too : (after : EventState) → Brings i old event → OwnPart moment event start after
      → OfEvent i start → X (outcome start) start.router.originated
      → Y (outcome (end_event old moment after)) (end_event old moment after).router.originated
  event_kept_too after brings own so lately =
      let begun : InProgress start = record { so = so; lately = lately } in
      let p : InProgress after = own_kept event after refl brings own begun in
      let said : EventState = originate_router_lsa old.area.links moment (loading_done after) in
      let refilled : EventState = postpone_router_lsa said.router.area.links (loading_done said)
      in
      let q : InProgress refilled =
      described_later said.router.area.links (loading_done said)
      (all_loaded said (described old.area.links (loading_done after) (all_loaded after p))) in
      let o : AreaState = request_all moment (outcome refilled) in
      let t : ByKey ℕ = refilled.router.originated in
      let area : OfOutcome i o = kept.requests moment (outcome refilled) q.so.area in
      let asked : X o t = too.requests (outcome refilled) t q.so.area q.lately in
      chosen (λ (r : AreaState). Y r t) (any_exchange_or_loading o.area.links) o
      (on_database (λ db. finite.retain_keys db (stays moment o.area)) o)
      (λ is. too.stays o t area asked) (λ is. too.removes o t area asked)
