-- Sizes of packets through whole events: what an event sends fits, since the copies of the database
-- and the lists of the neighbors do, which each part of an event keeps.
use Rattle.std.proofs.Common.{◌≡◌, ◌≤◌, ℕ, ◌+◌, Bool, true, false, cond, ◌&&◌, List, [], ◌∷◌, map}
use Rattle.std.proofs.Common.{length, Option, None, Some, refl, sym, ap, subst, ◌∙◌, arith}
use Rattle.std.specs.Prelude.{T}
use Rattle.std.specs.Cmp.{tied_itself}
use Rattle.std.specs.List.{AllByRecursion, enumerate_from, flat_map, fold}
use Rattle.std.specs.Ordering.{eq_by_cmp, is_eq, is_lt}
use Rattle.std.specs.declared.cmp.Ordering.{Ordering}
use Rattle.std.specs.declared.cmp.Ordering.TheVariants.{Less, Equal, Greater}
use Rattle.std.specs.FinMap as finite
use Rattle.std.specs.FinMap.Entries.{below_all, find_tied, is_sorted}
use Rattle.std.specs.FinMap.Entries as entries
use Rattle.std.proofs.lemmas.Bool.{and_parts, leb-true}
use Rattle.std.proofs.lemmas.List.{length-map}
use Rattle.words.specs.declared.key.Key.{Key}
use Rattle.lsa.specs.Reading.{lsa_in}
use Rattle.lsa.specs.declared.body.LsaBody.{LsaBody}
use Rattle.lsdb.specs.Copies.{Database, DatabaseCopy, age_prematurely, has_just_aged_out}
use Rattle.lsdb.specs.Copies.{install_originated, lsa_now}
use Rattle.lsdb.specs.Headers.{Header, Lsa, lsa_with_age, lsa_key}
use Rattle.lsdb.specs.Keys.{key_cmp}
use Rattle.lsdb.proofs.Keys.{keys_exact, keys_total}
use Rattle.packet.specs.declared.model.PacketBody.{PacketBody}
use Rattle.packet.specs.declared.model.PacketBody.TheVariants as body
use Rattle.packet.specs.declared.model.Hello.{Hello}
use Rattle.adjacency.specs.Adjacencies as adjacencies
use Rattle.adjacency.specs.Contents.{Content, Step as NeighborStep, no_sends}
use Rattle.adjacency.specs.Descriptions.{after_description}
use Rattle.adjacency.specs.Neighbors.{Neighbor}
use Rattle.adjacency.specs.declared.interface.Interface.{Interface}
use Rattle.adjacency.specs.Requests.{request_next}
use Rattle.adjacency.specs.Retransmissions.{after_acknowledgment}
use Rattle.adjacency.specs.Rooms.{AllFit, Fits, HasRoom, HasRoomyLists, IsRoomyStep}
use Rattle.adjacency.proofs.Kept.{chosen}
use Rattle.adjacency.proofs.Roomy.{acknowledgment_roomy, again_roomy, aged_fits}
use Rattle.adjacency.proofs.Roomy.{copies_fit, description_roomy, filled_roomy}
use Rattle.adjacency.proofs.Roomy.{hello_roomy, mismatched_roomy, now_fits}
use Rattle.adjacency.proofs.Roomy.{old_description_roomy, quiet_roomy, request_roomy}
use Rattle.adjacency.proofs.Roomy.{still_heard_roomy, updates_room}
use Rattle.received.specs.Holds.{Holds, HoldsOfEach}
use Rattle.received.specs.Links.{Link, link_at, neighbor_on}
use Rattle.received.specs.AreaStates.{AreaState, sends_at, on_database, on_links, sends_of}
use Rattle.received.proofs.Holding.{each_link_keeps, one_holds}
use Rattle.received.proofs.Roomy.{FitsIfThere, HasRoomFor, IsRoomyOutcome, SendHasRoom, all_fit}
use Rattle.received.proofs.Roomy.{case_roomy, changed_fit, changed_roomy, each_roomy, fits_at}
use Rattle.received.proofs.Roomy.{flood_roomy, inserted_fit, joined, numbered_roomy}
use Rattle.received.proofs.Roomy.{on_database_roomy, on_links_roomy, one_roomy, sending_roomy}
use Rattle.event_rules.specs.declared.model.Config.{Config}
use Rattle.event_rules.specs.declared.model.Out.{Out}
use Rattle.event_rules.specs.Commands.{taken_down}
use Rattle.event_rules.specs.Endings.{link_loading_done, loading_done_on, end_event, stays}
use Rattle.event_rules.specs.Endings.{flood_if_aged}
use Rattle.event_rules.specs.Events.{Happens, Run, Step, initial}
use Rattle.event_rules.specs.Hellos.{accepts, hello_is_due, heard_of, hello_on, names}
use Rattle.event_rules.specs.Originations.{due_keys, install_and_flood, new_instance}
use Rattle.event_rules.specs.Originations.{originate_or_postpone}
use Rattle.event_rules.specs.Originations.{router_key, wanted_body}
use Rattle.event_rules.specs.Packets.{accept_hello, receive_hello_on, requested_lsas, with_neighbor}
use Rattle.event_rules.specs.EventState.{EventState, flood_from_nobody}
use Rattle.event_rules.specs.RoomLaws.{EveryPacketHasRoom, HaveRoom, IsRoomy}
use Rattle.event_rules.specs.Routers.{Occurrence, Router, in_profile, fresh_link}
use Rattle.event_rules.specs.Routers.{unannounced_router}
use Rattle.event_rules.specs.Ticks.{acknowledgments_on, again, with_hello_sent, hello_sent_on}
use Rattle.event_rules.specs.Ticks.{expire_timers}
use Rattle.event_rules.specs.Ticks.{settled_exchange, without_acknowledgments}
use Rattle.event_rules.proofs.Fitting.{BringsShort, FitsIfRead, IsFewIfAny, IsShort}
use Rattle.event_rules.proofs.Fitting.{originated_fits}
use Rattle.event_rules.proofs.Fitting.{packet_short, read_fits, wanted_few}
use Rattle.event_rules.proofs.Rooms.{ordered_and_packed}
use Rattle.event_rules.proofs.Walk.{Brings, IfRead, Invariant, IsKeptByParts, OfBrought, OfBytes}
use Rattle.event_rules.proofs.Walk.{OfEvent, event_kept, originate_or_wait_kept, outcome}

-- ---- all copies of a database

abbrev EntryFits : (Key × DatabaseCopy) → Type 0
EntryFits e = Fits e.1.lsa

two_tests : (a b : Bool) → T (a && b) → T a × T b
two_tests true b h = (tt, h)
two_tests false b h = absurd h

not_tied : (r : Ordering) → T (is_lt r) → is_eq r ≡ false
not_tied Less h = refl
not_tied Equal h = absurd h
not_tied Greater h = absurd h

-- a key below all keys isn't among them
absent : (key : Key) (es : List (Key × DatabaseCopy)) → T (below_all key_cmp key es)
    → entries.find key_cmp key es ≡ None
absent key [] h = refl
absent key (e ∷ es) h =
    let both = two_tests (is_lt (key_cmp key e.0)) (below_all key_cmp key es) h in
    ap (λ b. cond b (Some e.1) (entries.find key_cmp key es)) (not_tied (key_cmp key e.0) both.0)
    ∙ absent key es both.1

tied : (r : Ordering) → is_eq r ≡ true → r ≡ Equal
tied Less e = absurd cc
tied Equal e = refl
tied Greater e = absurd cc

all_found : (es : List (Key × DatabaseCopy)) → T (is_sorted key_cmp es)
    → ((q : Key) → FitsIfThere (entries.find key_cmp q es)) → AllByRecursion EntryFits es
all_found [] sorted fits = tt
all_found (e ∷ es) sorted fits =
    let both = two_tests (below_all key_cmp e.0 es) (is_sorted key_cmp es) sorted in
    let here : FitsIfThere (Some e.1) =
    subst (λ r. FitsIfThere (cond (is_eq r) (Some e.1) (entries.find key_cmp e.0 es)))
    (tied_itself keys_total e.0) (fits e.0) in
    (here, all_found es both.1 (λ q. behind q both.0 (eq_by_cmp key_cmp q e.0) refl (fits q)))
  where
    behind : (q : Key) → T (below_all key_cmp e.0 es) → (b : Bool) → eq_by_cmp key_cmp q e.0 ≡ b
        → FitsIfThere (cond b (Some e.1) (entries.find key_cmp q es))
        → FitsIfThere (entries.find key_cmp q es)
    behind q below true is h = subst FitsIfThere
        (sym (absent e.0 es below) ∙ find_tied key_cmp keys_total q e.0 (tied (key_cmp q e.0) is)
        es) tt
    behind q below false is h = h

entries_fit : (db : Database) → AllFit db → AllByRecursion EntryFits (finite.entries db)
entries_fit db all =
    all_found (finite.entries db) (finite.entries_sorted db)
    (λ q. subst FitsIfThere (finite.get-entries db q) (fits_at db all q))

retained_fit : (db : Database) (p : Key → Bool) → AllFit db → AllFit (finite.retain_keys db p)
retained_fit db p all =
    all_fit (finite.retain_keys db p) (λ q.
    subst FitsIfThere (sym (finite.get-retain_keys db p q (λ x e. ap p (sym (keys_exact q x e)))))
    (chosen FitsIfThere (p q) (finite.get db q) None (λ is. fits_at db all q) (λ is. tt)))

-- ---- the invariant at each point of an event

abbrev roomy : Invariant
roomy = record {
  of_area = λ a sends. HasRoomFor a sends;
  of_announced = λ id announced. Unit {0};
  of_lsa = λ lsa. Fits lsa;
  of_key = λ key. Unit {0};
  without_room = Unit {0};
}

-- ---- aging, and self-originated LSAs

ages_roomy : (before moment : ℕ) (es : List (Key × DatabaseCopy)) (o : AreaState)
    → AllByRecursion EntryFits es → IsRoomyOutcome o
    → IsRoomyOutcome (fold (flood_if_aged before moment) o es)
ages_roomy before moment [] o fits h = h
ages_roomy before moment (e ∷ es) o fits h =
    ages_roomy before moment es (flood_if_aged before moment o e) fits.1
    (chosen IsRoomyOutcome (has_just_aged_out before moment e.1)
    (flood_from_nobody moment (lsa_now moment e.1) o) o
    (λ is. flood_roomy moment None (lsa_now moment e.1) o (now_fits moment e.1 fits.0) h) (λ is. h))

flushed_roomy : (moment : ℕ) (key : Key) (c : DatabaseCopy) (o : AreaState)
    → finite.get o.area.database key ≡ Some c → IsRoomyOutcome o
    → IsRoomyOutcome (flood_from_nobody moment (lsa_with_age 3600 c.lsa)
    (on_database (age_prematurely moment key) o))
flushed_roomy moment key c o is h =
    let fits : Fits c.lsa = subst FitsIfThere is (fits_at o.area.database h.fit key) in
    let old : IsRoomyOutcome (on_database (age_prematurely moment key) o) =
    on_database_roomy (age_prematurely moment key) o
    (changed_fit key (λ d. record d {
      lsa = lsa_with_age 3600 d.lsa;
      stored = moment;
    }) (λ d at. aged_fits 3600 d.lsa at) o.area.database h.fit) h in
    flood_roomy moment None (lsa_with_age 3600 c.lsa) (on_database (age_prematurely moment key) o)
    (aged_fits 3600 c.lsa fits) old

originated_roomy : (moment : ℕ) (key : Key) (says : LsaBody) (p : EventState)
    → wanted_body p.router key ≡ Some says → HasRoomFor p.router.area p.sends
    → IsRoomyOutcome (install_and_flood moment
    (new_instance key (finite.get p.router.area.database key) says) (outcome p))
originated_roomy moment key says p wants h =
    let few : IsFewIfAny (Some says) = subst IsFewIfAny wants (wanted_few p.router key h.few) in
    let lsa : Lsa = new_instance key (finite.get p.router.area.database key) says in
    let fits : Fits lsa = originated_fits key (finite.get p.router.area.database key) says few in
    flood_roomy moment None lsa (on_database (install_originated moment lsa) (outcome p)) fits
    (on_database_roomy (install_originated moment lsa) (outcome p)
    (inserted_fit p.router.area.database (lsa_key lsa) (record {
      lsa = lsa;
      stored = moment;
      received = None;
      sent = None;
    }) h.fit fits) h)

-- ---- each link

exchange_settled : (moment dead : ℕ) (o : Option Neighbor) → Holds HasRoomyLists o
    → Holds HasRoomyLists (settled_exchange moment dead o)
exchange_settled moment dead None h = tt
exchange_settled moment dead (Some n) h = old_description_roomy moment dead n h

each_link_roomy : (change : Link → Link)
    → ((link : Link) → Holds HasRoomyLists link.neighbor
    → Holds HasRoomyLists (change link).neighbor) → (o : AreaState) → IsRoomyOutcome o
    → IsRoomyOutcome (on_links (map change) o)
each_link_roomy change keeps o h =
    on_links_roomy (map change) o (each_link_keeps HasRoomyLists change keeps o.area.links h.lists)
    (length-map o.area.links change) h

filled_on_roomy : (o : Option Neighbor) → Holds HasRoomyLists o
    → Holds HasRoomyLists (loading_done_on o)
filled_on_roomy None h = tt
filled_on_roomy (Some n) h = filled_roomy n h

-- ---- what each link sends by itself

sends_roomy : (f : Link → List Content) → ((link : Link) → AllByRecursion HasRoom (f link))
    → (k : ℕ) (xs : List Link) → AllByRecursion SendHasRoom
    (flat_map (λ (e : ℕ × Link). sends_at e.0 (f e.1)) (enumerate_from k xs))
sends_roomy f each k [] = tt
sends_roomy f each k (x ∷ xs) =
    joined SendHasRoom (sends_at k (f x))
    (flat_map (λ (e : ℕ × Link). sends_at e.0 (f e.1)) (enumerate_from (k + 1) xs))
    (numbered_roomy k (f x) (each x)) (sends_roomy f each (k + 1) xs)

acknowledgments_room : (es : List (Key × Header))
    → AllByRecursion HasRoom (map Content.Acknowledges (map (λ e. e.1) es))
acknowledgments_room [] = tt
acknowledgments_room (e ∷ es) = (tt, acknowledgments_room es)

one_named : (o : Option Neighbor) → length (heard_of o) ≤ 1
one_named None = omega arith
one_named (Some n) = omega arith

hello_room : (moment : ℕ) (link : Link) → AllByRecursion HasRoom (hello_sent_on moment link)
hello_room moment link =
    chosen (AllByRecursion HasRoom) (hello_is_due moment link)
    (Content.SendsHello (hello_on link) ∷ []) [] (λ is. (one_named link.neighbor, tt))
    (λ is. tt)

-- ---- the parts, and the complete event

keys_any : (keys : List Key) → AllByRecursion (λ key. Unit {0}) keys
keys_any [] = tt
keys_any (key ∷ keys) = (tt, keys_any keys)

texts_fit : (lsas : List (List ℕ)) → AllByRecursion IsShort lsas
    → AllByRecursion (OfBytes Fits) lsas
texts_fit [] short = tt
texts_fit (bytes ∷ rest) short = (
  if_read (lsa_in bytes) (read_fits bytes short.0),
  texts_fit rest short.1,
)
  where
    if_read : (o : Option Lsa) → FitsIfRead o → IfRead Fits o
    if_read None fits = tt
    if_read (Some lsa) fits = fits

brought_fits : (b : PacketBody) → BringsShort b → OfBrought Fits b
brought_fits (body.Hello h) short = tt
brought_fits (body.Description d) short = tt
brought_fits (body.Request keys) short = tt
brought_fits (body.Update lsas) short = texts_fit lsas short
brought_fits (body.Acknowledgment headers) short = tt

brings : (old : Router) (event : Occurrence) → Brings roomy old event
brings old event = record {
  packet = λ number bytes packet is text. brought_fits packet.body (packet_short bytes packet text);
  key = λ tagged tag priced price is. (tt, tt);
}

hello_heard : (own moment number from : ℕ) (hello : Hello) (link : Option Link) (o : AreaState)
    → Holds HasRoomyLists (neighbor_on link) → IsRoomyOutcome o
    → IsRoomyOutcome (receive_hello_on own moment number from hello link o)
hello_heard own moment number from hello None o here h = h
hello_heard own moment number from hello (Some link) o here h =
    let s : NeighborStep = adjacencies.after_hello moment from (names own hello) link.neighbor in
    let so : IsRoomyStep s = hello_roomy moment from (names own hello) link.neighbor here in
    chosen IsRoomyOutcome (accepts own from hello link) (accept_hello moment number s o) o
    (λ is.
    sending_roomy moment (sends_at number s.sends) _ (numbered_roomy number s.sends so.sends)
    (changed_roomy number (with_neighbor s.neighbor) (λ l at. so.neighbor) o h))
    (λ is. h)

parts_roomy : IsKeptByParts roomy
parts_roomy = record {
  ages = λ before moment o h. ages_roomy before moment (finite.entries o.area.database) o
      (entries_fit o.area.database h.fit) h;
  flushes = λ moment key c o is young h. flushed_roomy moment key c o is h;
  originates = λ moment key says p own goes wants grows h. originated_roomy moment key says p wants
      h.area;
  own_router = λ r own. tt;
  case = λ case moment number lsa so o h. case_roomy case moment number lsa o so h;
  own_received = λ r lsa so is own. tt;
  hello = λ own moment number from hello o h.
      hello_heard own moment number from hello (link_at number o.area.links) o
      (one_holds HasRoomyLists number o.area.links h.lists) h;
  description = λ own moment number d o h.
      one_roomy moment number (after_description own moment o.area.database d)
      (description_roomy own moment o.area.database d) o h;
  requested = λ moment number keys o h.
      let lsas : List Lsa = requested_lsas moment o.area.database keys in
      sending_roomy moment (sends_at number (map Content.Updates lsas)) o
      (numbered_roomy number (map Content.Updates lsas)
      (updates_room lsas (copies_fit moment o.area.database h.fit keys))) h;
  mismatch = λ moment number o h. one_roomy moment number (adjacencies.mismatch_step moment)
      (mismatched_roomy moment) o h;
  acknowledgment = λ moment number headers o h.
      one_roomy moment number (λ n. no_sends (after_acknowledgment moment headers n))
      (λ n at. quiet_roomy (after_acknowledgment moment headers n)
      (acknowledgment_roomy moment headers n at)) o h;
  due = λ moment r own. keys_any (due_keys moment r);
  inactive = λ moment o h.
      each_link_roomy (expire_timers moment)
      (λ link at.
      exchange_settled moment link.interface.dead_interval
      (adjacencies.after_inactivity_timer moment link.interface.dead_interval link.neighbor)
      (still_heard_roomy moment link.interface.dead_interval link.neighbor at)) o h;
  again = λ moment o h.
      each_roomy moment (again moment o)
      (λ number link n at. again_roomy moment link.interface.retransmit_interval o.area.database
      n h.fit at) o h;
  acknowledges = λ moment o h.
      sending_roomy moment (sends_of acknowledgments_on o.area.links)
      (on_links (map without_acknowledgments) o)
      (sends_roomy acknowledgments_on (λ link. acknowledgments_room
      (finite.entries link.acknowledgments)) 1 o.area.links)
      (each_link_roomy without_acknowledgments (λ link at. at) o h);
  hellos = λ moment o h.
      sending_roomy moment (sends_of (hello_sent_on moment) o.area.links)
      (on_links (map (with_hello_sent moment)) o)
      (sends_roomy (hello_sent_on moment) (hello_room moment) 1 o.area.links)
      (each_link_roomy (with_hello_sent moment) (λ link at. at) o h);
  announces = λ r e own h. tt;
  unannounces = λ r key h. tt;
  link_down = λ number o h. changed_roomy number taken_down (λ link at. tt) o h;
  loaded = λ o h. each_link_roomy link_loading_done (λ link at. filled_on_roomy link.neighbor at) o
      h;
  requests = λ moment o h. each_roomy moment (λ number link n. request_next moment n)
      (λ number link n at. request_roomy moment n at) o h;
  removes = λ moment o h.
      on_database_roomy (λ db. finite.retain_keys db (stays moment o.area)) o
      (retained_fit o.area.database (stays moment o.area) h.fit) h;
}

event_end : (old : Router) (moment : ℕ) (event : Occurrence) (outs : List Out) (new : Router)
    → (happens : Happens old moment event outs new) → IsRoomy old
    → HasRoomFor (end_event old moment happens.after).router.area
    (end_event old moment happens.after).sends
event_end old moment event outs new happens h =
    let start : OfEvent roomy (record { router = old; sends = [] }) = record {
      area = record { fit = h.fit; lists = h.lists; few = h.few; sent = tt };
      announced = tt;
    } in (event_kept roomy parts_roomy old moment event happens.after (brings old event) happens.own
    start).area

event_roomy : (old : Router) (moment : ℕ) (event : Occurrence) (outs : List Out) (new : Router)
    → Happens old moment event outs new → IsRoomy old → IsRoomy new × HaveRoom outs
event_roomy old moment event outs new happens h =
    let p : EventState = end_event old moment happens.after in
    let end : HasRoomFor p.router.area p.sends = event_end old moment event outs new happens h in
    let after : IsRoomy p.router = record { fit = end.fit; lists = end.lists; few = end.few } in (
      subst IsRoomy (sym happens.router) after,
      subst HaveRoom (sym happens.sent)
          (ordered_and_packed.bytes old.id old.area.links p.sends end.sent),
    )

-- ---- the start, and every run

fresh_so : (is : List Interface) → HoldsOfEach HasRoomyLists (map fresh_link is)
fresh_so [] = tt
fresh_so (i ∷ is) = (tt, fresh_so is)

none_there : (key : Key) → FitsIfThere
    (finite.get (finite.empty {X = DatabaseCopy} {R = key_cmp}) key)
none_there key = subst FitsIfThere (sym (finite.get-empty key_cmp key)) tt

first_roomy : (c : Config) → in_profile c ≡ true → IsRoomy (initial c)
first_roomy c e =
    let a = and_parts _ _ e in
    let b = and_parts _ _ a.0 in
    let d = and_parts _ _ b.0 in
    let few : length c.interfaces ≤ 63 = leb-true (length c.interfaces) 63 d.1 in
    let still : length (map fresh_link c.interfaces) ≤ 63 =
    subst (λ n. n ≤ 63) (sym (length-map c.interfaces fresh_link)) few in
    let start : EventState = record { router = unannounced_router c; sends = [] } in
    let at : OfEvent roomy start = record {
      area = record {
        fit = all_fit (finite.empty {X = DatabaseCopy} {R = key_cmp}) none_there;
        lists = fresh_so c.interfaces;
        few = still;
        sent = tt;
      };
      announced = tt;
    } in
    let so : OfEvent roomy (originate_or_postpone c.start (router_key c.router) start) =
    originate_or_wait_kept roomy parts_roomy c.start (router_key c.router) start tt at in
    record { fit = so.area.fit; lists = so.area.lists; few = so.area.few }

run_roomy : (steps : List Step) (old new : Router) → Run old steps new → IsRoomy old
    → IsRoomy new × AllByRecursion (λ (s : Step). HaveRoom s.outs) steps
run_roomy [] old new same h = (subst IsRoomy (sym same) h, tt)
run_roomy (s ∷ steps) old new run h =
    let now = event_roomy old s.moment s.event s.outs run.0 run.1 h in
    let rest = run_roomy steps run.0 new run.2 now.0 in
    (rest.0, (now.1, rest.1))

pub every_packet_has_room : EveryPacketHasRoom
every_packet_has_room = record {
  first = first_roomy;
  event = event_roomy;
  sends = λ old moment event outs new happens h.
      (event_end old moment event outs new happens h).sent;
  run = λ c steps new profile run. run_roomy steps (initial c) new run (first_roomy c profile);
}
