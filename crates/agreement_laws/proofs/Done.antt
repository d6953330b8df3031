-- The Database summary list is empty after the exchange. The M-bit of the last Database Description
-- sent says whether it was the last.
use Rattle.std.proofs.Common.{◌≡◌, ℕ, zero, suc, ◌+◌, ◌≤◌, ◌%◌, ◌^◌, Bool, true, false, cond, not}
use Rattle.std.proofs.Common.{◌&&◌, ◌||◌, List, [], ◌∷◌, length, map, drop, Option, None, Some}
use Rattle.std.proofs.Common.{refl, sym, ap, subst, ◌∙◌, arith}
use Rattle.std.specs.Prelude.{◌==◌, nat_lt}
use Rattle.std.specs.FinMap as finite
use Rattle.std.specs.List.{fold}
use Rattle.std.proofs.lemmas.Bool.{ltb-false}
use Rattle.words.specs.Constants.{max_headers_described}
use Rattle.words.specs.declared.key.Key.{Key}
use Rattle.lsdb.specs.Copies.{Database, DatabaseCopy, age_prematurely, has_just_aged_out}
use Rattle.lsdb.specs.Copies.{install_flooded}
use Rattle.lsdb.specs.Copies.{install_originated, lsa_now}
use Rattle.lsdb.specs.Headers.{Header, Lsa, lsa_with_age, lsa_key}
use Rattle.lsdb.specs.Instances.{ListEntry}
use Rattle.lsdb.specs.Keys.{ByKey, key_cmp}
use Rattle.packet.specs.declared.model.Description.{Description}
use Rattle.packet.specs.declared.model.Hello.{Hello}
use Rattle.adjacency.specs.declared.interface.Interface.{Interface}
use Rattle.adjacency.specs.declared.state.NeighborState.{NeighborState}
use Rattle.adjacency.specs.declared.state.NeighborState.TheVariants.{Init, ExStart, Exchange}
use Rattle.adjacency.specs.declared.state.NeighborState.TheVariants.{Loading, Full}
use Rattle.adjacency.specs.Adjacencies as adjacencies
use Rattle.adjacency.specs.Adjacencies.{enter_exstart, mismatch_step, requests_nothing}
use Rattle.adjacency.specs.Contents.{Step, no_sends}
use Rattle.adjacency.specs.Descriptions.{Verdict, accept, act, after_description, announced_more}
use Rattle.adjacency.specs.Descriptions.{as_received, changes_options, exchange_done}
use Rattle.adjacency.specs.Descriptions.{send_description, exchange_over, expected_sequence}
use Rattle.adjacency.specs.Descriptions.{in_state, is_duplicate, is_initial_description, is_kept}
use Rattle.adjacency.specs.Descriptions.{is_over_for, knows_types, master_goes_on, process}
use Rattle.adjacency.specs.Descriptions.{negotiated_neighbor, same_flag, slave_replies}
use Rattle.adjacency.specs.Descriptions.{with_requests, without_old_description}
use Rattle.adjacency.specs.Floods.{flooding, without_satisfied_request}
use Rattle.adjacency.specs.Neighbors.{Neighbor, is_exchange_or_later}
use Rattle.adjacency.specs.Requests.{request_next}
use Rattle.adjacency.specs.Retransmissions.{after_acknowledgment, remove_retransmission}
use Rattle.adjacency.proofs.Kept.{chosen}
use Rattle.received.specs.Cases.{Case}
use Rattle.received.specs.Flooding.{flood, flood_to, is_incoming}
use Rattle.received.specs.Holds.{Holds, HoldsOfEach}
use Rattle.received.specs.Links.{Link, delay_acknowledgment, link_at, neighbor_at, neighbor_on}
use Rattle.received.specs.AreaStates.{AreaState, on_database}
use Rattle.received.specs.Updates.{after_case, database_copy, flood_and_install, send_copy}
use Rattle.received.proofs.Holding.{changed_keeps, each_keeps, each_link_keeps, one_holds}
use Rattle.received.proofs.Holding.{one_keeps}
use Rattle.event_rules.specs.declared.model.Config.{Config}
use Rattle.event_rules.specs.declared.model.Out.{Out}
use Rattle.event_rules.specs.Commands.{taken_down}
use Rattle.event_rules.specs.Endings.{flood_if_aged, link_loading_done}
use Rattle.event_rules.specs.EventState.{flood_from_nobody}
use Rattle.event_rules.specs.Events.{Happens, Run, Step as RunStep, initial}
use Rattle.event_rules.specs.Hellos.{accepts, names}
use Rattle.event_rules.specs.Originations.{due_keys, new_instance, router_key}
use Rattle.event_rules.specs.Packets.{accept_hello, receive_hello_on, with_neighbor}
use Rattle.event_rules.specs.Routers.{Occurrence, Router, fresh_link, unannounced_router}
use Rattle.event_rules.specs.Ticks.{again, expire_timers, with_hello_sent, without_acknowledgments}
use Rattle.event_rules.proofs.Walk.{Brings, Invariant, IsKeptByParts, originate_or_wait_kept}
use Rattle.event_rules.proofs.Walk as walk
use Rattle.agreement_laws.specs.HeldWasExchanged.{NothingIsLeftToDescribe, is_exchange_done}
use Rattle.agreement_laws.proofs.Verdicts.{as_slave_or_master, first_two, mismatch_or_accepted}
use Rattle.agreement_laws.proofs.Steps as steps
use Rattle.agreement_laws.proofs.AtInterface as interface
use Rattle.invariants.proofs.Lists.{none_asked}
use Rattle.invariants.proofs.Unasked.{brought_any}

-- ---- all entries fit

none_left : {X : Type 0} (n : ℕ) (xs : List X) → length xs ≤ n → drop n xs ≡ []
none_left zero [] most = refl
none_left zero (x ∷ xs) most = absurd (omega (arith, most))
none_left (suc n) [] most = refl
none_left (suc n) (x ∷ xs) most = none_left n xs (omega (arith, most))

left_empty : (n : ℕ) (m : ByKey ListEntry) → nat_lt n (finite.len m) ≡ false
    → finite.from_entries {R = key_cmp} (drop n (finite.entries m)) ≡ finite.empty
left_empty n m e =
    ap (λ (es : List (Key × ListEntry)). finite.from_entries {R = key_cmp} es)
    (none_left n (finite.entries m) (subst (λ k. k ≤ n) (finite.len-entries m)
    (ltb-false n (finite.len m) e)))

-- ---- a neighbor

-- the moment at which the exchange was completed is kept from then on; before it, the last Database
-- Description sent had the M-bit set if anything was left
abbrev pub Done : NeighborState → Option Description → Option ℕ → ByKey ListEntry → Type 0
Done Init d at s = at ≡ None
Done ExStart d at s = (at ≡ None) × (announced_more d ≡ true)
Done Exchange d at s = (at ≡ None) × (announced_more d ≡ false → s ≡ finite.empty)
Done Loading d at s = s ≡ finite.empty
Done Full d at s = s ≡ finite.empty

abbrev pub IsDone : Neighbor → Type 0
IsDone m = Done m.state m.described m.exchanged m.summary

abbrev OfStep : Step → Type 0
OfStep s = IsDone s.neighbor

flooded : (moment : ℕ) (from : Bool) (lsa : Lsa) (m : Neighbor) → IsDone m
    → IsDone (flooding moment from lsa m).neighbor
flooded moment from lsa m h =
    let met : IsDone (without_satisfied_request moment lsa m) = steps.met IsDone moment lsa m h h in
    steps.flooded IsDone moment from lsa m met met h

mismatched : (moment : ℕ) (m : Neighbor) → IsDone m → IsDone (mismatch_step moment m).neighbor
mismatched moment m h = steps.mismatched IsDone moment m (refl, refl) h

helloed : (moment from : ℕ) (names : Bool) (o : Option Neighbor) → Holds IsDone o
    → IsDone (adjacencies.after_hello moment from names o).neighbor
helloed moment from names o h =
    steps.helloed IsDone (λ router attempt heard. refl) moment (λ m. (refl, refl)) from names o h

acknowledged : (moment : ℕ) (hs : List Header) (m : Neighbor) → IsDone m
    → IsDone (after_acknowledgment moment hs m)
acknowledged moment hs m h = steps.acknowledged IsDone (λ k n so. so) moment hs m h

-- ---- Database Descriptions

-- a neighbor in Exchange
abbrev Exchanging : Neighbor → Type 0
Exchanging m = Done Exchange m.described m.exchanged m.summary

described : (moment : ℕ) (m : Neighbor) → m.exchanged ≡ None
    → Exchanging (send_description moment m).neighbor
described moment m at = (at, λ e. left_empty max_headers_described m.summary e)

over_by : (b : Bool) (d : Option Description) (at : Option ℕ) (s : ByKey ListEntry) → s
    ≡ finite.empty → Done (cond b Full Loading) d at s
over_by true d at s is = is
over_by false d at s is = is

first_false : (a b : Bool) → (a || b) ≡ false → a ≡ false
first_false true b e = absurd cc
first_false false b e = refl

master : (moment : ℕ) (d : Description) (m : Neighbor) → m.state ≡ Exchange → Exchanging m
    → IsDone (master_goes_on moment d m).neighbor
master moment d m is h =
    chosen OfStep (announced_more m.described || d.more) (send_description moment (record m {
      sequence = (m.sequence + 1) % 2 ^ 32;
    })) (no_sends (exchange_done moment m))
    (λ e.
    let n : Neighbor = record m { sequence = (m.sequence + 1) % 2 ^ 32 } in
    subst (λ (s : NeighborState). Done s (send_description moment n).neighbor.described m.exchanged
    (send_description moment n).neighbor.summary) (sym is) (described moment n h.0))
    (λ e. over_by (requests_nothing m) m.described (Some moment) m.summary
    (h.1 (first_false (announced_more m.described) d.more e)))

slave : (moment : ℕ) (d : Description) (m : Neighbor) → m.state ≡ Exchange → Exchanging m
    → IsDone (slave_replies moment d m).neighbor
slave moment d m is h =
    let replied : Step = send_description moment (record m { sequence = d.sequence }) in
    let so : Exchanging replied.neighbor = described moment (record m {
      sequence = d.sequence;
    }) h.0 in
    chosen OfStep (announced_more replied.neighbor.described || d.more) replied (record replied {
      neighbor = exchange_done moment replied.neighbor;
    })
    (λ e. subst (λ (s : NeighborState). Done s replied.neighbor.described m.exchanged
    replied.neighbor.summary) (sym is) so)
    (λ e. over_by (requests_nothing replied.neighbor) replied.neighbor.described (Some moment)
    replied.neighbor.summary
    (so.1 (first_false (announced_more replied.neighbor.described) d.more e)))

accepted : (moment : ℕ) (db : Database) (d : Description) (m : Neighbor) → m.state ≡ Exchange
    → Exchanging m → IsDone m → IsDone (accept moment db d m).neighbor
accepted moment db d m is h whole =
    let w : Neighbor = with_requests moment db d.headers (record m {
      received = Some (as_received d);
    }) in
    chosen OfStep (knows_types d) (cond w.is_master (master_goes_on moment d w)
    (slave_replies moment d w)) (mismatch_step moment m)
    (λ e. chosen OfStep w.is_master (master_goes_on moment d w) (slave_replies moment d w)
    (λ e. master moment d w is h) (λ e. slave moment d w is h))
    (λ e. mismatched moment m whole)

module _ (own moment : ℕ) (db : Database) (d : Description) where
  abbrev Does : Neighbor → Verdict → Type 0
  Does m v = IsDone (act v moment db d m).neighbor

  -- an exchange begins, and the initial Database Description of ExStart had the M-bit set
  negotiated : (b : Bool) (sequence : ℕ) (m : Neighbor) → (m.exchanged ≡ None)
      × (announced_more m.described ≡ true)
      → IsDone (accept moment db d (negotiated_neighbor b sequence moment db m)).neighbor
  negotiated b sequence m h = accepted moment db d (negotiated_neighbor b sequence moment db m) refl
      (begun h) (begun h)
    where
      begun : (m.exchanged ≡ None) × (announced_more m.described ≡ true)
          → Exchanging (negotiated_neighbor b sequence moment db m)
      begun k = (k.0, λ e. absurd (opened e))
        where
          opened : announced_more m.described ≡ false → ⊥
          opened e = let no : true ≡ false = sym k.1 ∙ e in absurd cc

  negotiating_so : (m : Neighbor) → (m.exchanged ≡ None) × (announced_more m.described ≡ true)
      → IsDone (process own moment db d (record m { state = ExStart })).neighbor
  negotiating_so m h =
      let n : Neighbor = record m { state = ExStart } in
      as_slave_or_master (Does n) (negotiated false d.sequence n h) (negotiated true n.sequence n h)
      h
      (is_initial_description d && nat_lt own m.router)
      (not d.init && not d.master && d.sequence == m.sequence && nat_lt m.router own)

  over : (m : Neighbor) → IsDone m → IsDone (act (exchange_over m d) moment db d m).neighbor
  over m h =
      first_two (Does m) (is_duplicate m.received d && m.is_master)
      (is_duplicate m.received d && is_kept m.described) Verdict.Mismatch
      h (steps.repeated IsDone moment m h) (mismatched moment m h)

  stated : (s : NeighborState) (m : Neighbor) → IsDone (record m {
    state = s;
  }) → IsDone (in_state s own moment db d (record m { state = s })).neighbor
  stated Init m h = negotiating_so (enter_exstart moment (record m {
    state = Init;
  })).neighbor (refl, refl)
  stated ExStart m h = negotiating_so (record m { state = ExStart }) h
  stated Exchange m h =
      let n : Neighbor = record m { state = Exchange } in
      first_two (Does n) (is_duplicate m.received d && m.is_master) (is_duplicate m.received d) _ h
      (steps.repeated IsDone moment n h)
      (mismatch_or_accepted (Does n) (mismatched moment n h) (accepted moment db d n refl h h)
      (same_flag d.master m.is_master) d.init (changes_options m.received d)
      (not (d.sequence == expected_sequence n)))
  stated Loading m h = over (record m { state = Loading }) h
  stated Full m h = over (record m { state = Full }) h

  after : (m : Neighbor) → IsDone m → IsDone (after_description own moment db d m).neighbor
  after m h = chosen OfStep (nat_lt 8192 d.mtu) (no_sends m) (in_state m.state own moment db d m)
      (λ e. h) (λ e. stated m.state m h)

-- ---- a Tick

-- the last Database Description is discarded only after the exchange was completed
given_up : (s : NeighborState) (moment dead : ℕ) (d : Option Description) (at : Option ℕ)
    (l : ByKey ListEntry) → is_over_for moment dead at ≡ true → Done s d at l → Done s None at l
given_up Init moment dead d at l e h = h
given_up ExStart moment dead d at l e h = let no : true ≡ false = sym e
    ∙ ap (is_over_for moment dead) h.0 in absurd cc
given_up Exchange moment dead d at l e h = let no : true ≡ false = sym e
    ∙ ap (is_over_for moment dead) h.0 in absurd cc
given_up Loading moment dead d at l e h = h
given_up Full moment dead d at l e h = h

old_description : (moment dead : ℕ) (m : Neighbor) → IsDone m
    → IsDone (without_old_description moment dead m)
old_description moment dead m h =
    steps.old_description IsDone moment dead m
    (λ e. given_up m.state moment dead m.described m.exchanged m.summary e h) h

-- ---- every neighbor

abbrev OnOutcome : AreaState → Type 0
OnOutcome o = HoldsOfEach IsDone o.area.links

flood_kept : (moment : ℕ) (sender : Option ℕ) (lsa : Lsa) (o : AreaState) → OnOutcome o
    → OnOutcome (flood moment sender lsa o)
flood_kept moment sender lsa o h =
    each_keeps IsDone moment (flood_to moment sender lsa)
    (λ number link n at. flooded moment (is_incoming sender number) lsa n at) o h

install_kept : (moment number : ℕ) (lsa : Lsa) (o : AreaState) → OnOutcome o
    → OnOutcome (flood_and_install moment number lsa o)
install_kept moment number lsa o h =
    let p : AreaState = on_database (install_flooded moment lsa) o in
    changed_keeps IsDone number (delay_acknowledgment lsa.header) (λ link at. at)
    (flood moment (Some number) lsa p).area.links (flood_kept moment (Some number) lsa p h)

copy_kept : (moment number : ℕ) (c : Option DatabaseCopy) (o : AreaState) → OnOutcome o
    → OnOutcome (send_copy moment number c o)
copy_kept moment number None o h = h
copy_kept moment number (Some c) o h = h

case_kept : (case : Case) (moment number : ℕ) (lsa : Lsa) (o : AreaState) → OnOutcome o
    → OnOutcome (after_case case moment number lsa o)
case_kept Case.Unreadable moment number lsa o h = h
case_kept Case.NothingToFlush moment number lsa o h = h
case_kept Case.TooSoon moment number lsa o h = h
case_kept Case.Newer moment number lsa o h = install_kept moment number lsa o h
case_kept Case.BadRequest moment number lsa o h =
    one_keeps IsDone moment number (mismatch_step moment) (mismatched moment) o h
case_kept Case.ImpliedAcknowledgment moment number lsa o h =
    one_keeps IsDone moment number (λ n. no_sends (remove_retransmission (lsa_key lsa) n))
    (λ n at. at) o h
case_kept Case.Duplicate moment number lsa o h = h
case_kept Case.SequenceWraps moment number lsa o h = h
case_kept Case.SentJustNow moment number lsa o h = h
case_kept Case.Older moment number lsa o h = copy_kept moment number (database_copy lsa o.area) o h

ages_kept : (before moment : ℕ) (es : List (Key × DatabaseCopy)) (o : AreaState) → OnOutcome o
    → OnOutcome (fold (flood_if_aged before moment) o es)
ages_kept before moment [] o h = h
ages_kept before moment (e ∷ es) o h =
    ages_kept before moment es (flood_if_aged before moment o e)
    (chosen OnOutcome (has_just_aged_out before moment e.1)
    (flood_from_nobody moment (lsa_now moment e.1) o) o
    (λ is. flood_kept moment None (lsa_now moment e.1) o h) (λ is. h))

hello_heard : (own moment number from : ℕ) (hello : Hello) (link : Option Link) (o : AreaState)
    → Holds IsDone (neighbor_on link) → OnOutcome o
    → OnOutcome (receive_hello_on own moment number from hello link o)
hello_heard own moment number from hello None o here h = h
hello_heard own moment number from hello (Some link) o here h =
    let s : Step = adjacencies.after_hello moment from (names own hello) link.neighbor in
    chosen OnOutcome (accepts own from hello link) (accept_hello moment number s o) o
    (λ is. changed_keeps IsDone number (with_neighbor s.neighbor)
    (λ l at. helloed moment from (names own hello) link.neighbor here) o.area.links h) (λ is. h)

abbrev on_neighbors : Invariant
on_neighbors = record {
  of_area = λ a sends. HoldsOfEach IsDone a.links;
  of_announced = λ id announced. Unit {0};
  of_lsa = λ lsa. Unit {0};
  of_key = λ key. Unit {0};
  without_room = Unit {0};
}

parts_keep : IsKeptByParts on_neighbors
parts_keep = record {
  ages = λ before moment o h. ages_kept before moment (finite.entries o.area.database) o h;
  flushes = λ moment key c o is young h. flood_kept moment None (lsa_with_age 3600 c.lsa)
      (on_database (age_prematurely moment key) o) h;
  originates = λ moment key says p own goes wants grows h.
      let lsa : Lsa = new_instance key (finite.get p.router.area.database key) says in
      flood_kept moment None lsa (on_database (install_originated moment lsa) (walk.outcome p))
      h.area;
  own_router = λ r own. tt;
  case = λ case moment number lsa so o h. case_kept case moment number lsa o h;
  own_received = λ r lsa so is own. tt;
  hello = λ own moment number from hello o h. hello_heard own moment number from hello
      (link_at number o.area.links) o (one_holds IsDone number o.area.links h) h;
  description = λ own moment number d o h. one_keeps IsDone moment number
      (after_description own moment o.area.database d) (after own moment o.area.database d) o h;
  requested = λ moment number keys o h. h;
  mismatch = λ moment number o h. one_keeps IsDone moment number (mismatch_step moment)
      (mismatched moment) o h;
  acknowledgment = λ moment number headers o h. one_keeps IsDone moment number
      (λ n. no_sends (after_acknowledgment moment headers n)) (acknowledged moment headers) o h;
  due = λ moment r own. none_asked (due_keys moment r);
  inactive = λ moment o h. each_link_keeps IsDone (expire_timers moment)
      (λ link at. interface.inactive (Holds IsDone) tt moment link.interface.dead_interval
      (old_description moment link.interface.dead_interval) link.neighbor at) o.area.links h;
  again = λ moment o h.
      each_keeps IsDone moment (again moment o)
      (λ number link n at. steps.again IsDone moment link.interface.retransmit_interval
      o.area.database
      n at) o h;
  acknowledges = λ moment o h. each_link_keeps IsDone without_acknowledgments (λ link at. at)
      o.area.links h;
  hellos = λ moment o h. each_link_keeps IsDone (with_hello_sent moment) (λ link at. at)
      o.area.links h;
  announces = λ r e own h. tt;
  unannounces = λ r key h. tt;
  link_down = λ number o h. changed_keeps IsDone number taken_down (λ link at. tt) o.area.links h;
  loaded = λ o h. each_link_keeps IsDone link_loading_done
      (λ link at. interface.loaded (Holds IsDone) (λ m k. steps.filled IsDone m (λ so. so) k)
      link.neighbor at) o.area.links h;
  requests = λ moment o h. each_keeps IsDone moment (λ number link n. request_next moment n)
      (λ number link n at. steps.asked IsDone moment n at) o h;
  removes = λ moment o h. h;
}

brings : (old : Router) (event : Occurrence) → Brings on_neighbors old event
brings old event = record {
  packet = λ number bytes packet is text. brought_any packet.body;
  key = λ tagged tag priced price is. (tt, tt);
}

event_kept : (old : Router) (moment : ℕ) (event : Occurrence) (outs : List Out) (new : Router)
    → Happens old moment event outs new → HoldsOfEach IsDone old.area.links
    → HoldsOfEach IsDone new.area.links
event_kept old moment event outs new happens h =
    subst (λ (r : Router). HoldsOfEach IsDone r.area.links) (sym happens.router)
    (walk.event_kept on_neighbors parts_keep old moment event happens.after (brings old event)
    happens.own (record { area = h; announced = tt })).area

-- ---- runs

fresh_so : (is : List Interface) → HoldsOfEach IsDone (map fresh_link is)
fresh_so [] = tt
fresh_so (i ∷ is) = (tt, fresh_so is)

first_so : (c : Config) → HoldsOfEach IsDone (initial c).area.links
first_so c =
    (originate_or_wait_kept on_neighbors parts_keep c.start (router_key c.router) (record {
      router = unannounced_router c;
      sends = [];
    }) tt
    (record { area = fresh_so c.interfaces; announced = tt })).area

run_kept : (steps : List RunStep) (old new : Router) → Run old steps new
    → HoldsOfEach IsDone old.area.links → HoldsOfEach IsDone new.area.links
run_kept [] old new same h = subst (λ (r : Router). HoldsOfEach IsDone r.area.links) (sym same) h
run_kept (s ∷ steps) old new run h =
    run_kept steps run.0 new run.2 (event_kept old s.moment s.event s.outs run.0 run.1 h)

-- so for the neighbor at an interface, after every run from the start
pub always_done : (c : Config) (steps : List RunStep) (r : Router) → Run (initial c) steps r
    → (number : ℕ) (n : Neighbor) → neighbor_at number r.area.links ≡ Some n → IsDone n
always_done c steps r run number n at =
    subst (Holds IsDone) at (one_holds IsDone number r.area.links
    (run_kept steps (initial c) r run (first_so c)))

-- who is done is in Exchange or later
pub exchange_then : (s : NeighborState) → is_exchange_done s ≡ true → is_exchange_or_later s ≡ true
exchange_then Init e = absurd cc
exchange_then ExStart e = absurd cc
exchange_then Exchange e = absurd cc
exchange_then Loading e = refl
exchange_then Full e = refl

emptied : (s : NeighborState) (d : Option Description) (at : Option ℕ) (l : ByKey ListEntry)
    → is_exchange_done s ≡ true → Done s d at l → l ≡ finite.empty
emptied Init d at l is h = absurd cc
emptied ExStart d at l is h = absurd cc
emptied Exchange d at l is h = absurd cc
emptied Loading d at l is h = h
emptied Full d at l is h = h

pub nothing_is_left : NothingIsLeftToDescribe
nothing_is_left c steps r run number n at done =
    emptied n.state n.described n.exchanged n.summary done (always_done c steps r run number n at)
