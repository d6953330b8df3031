-- The events of the left router, with the Router ID 1: it receives a Hello, sends one, and
-- exchanges Database Descriptions as the slave.
use Rattle.std.proofs.Common.{◌≡◌, ℕ, Bool, true, false, cond, not, ◌&&◌, ◌||◌, List, [], ◌∷◌}
use Rattle.std.proofs.Common.{length, map, drop, None, Some, is_some, refl, sym, ap, ◌∙◌}
use Rattle.std.specs.Prelude.{◌==◌, nat_lt}
use Rattle.std.specs.FinMap as finite
use Rattle.std.specs.FinSet as set
use Rattle.std.specs.List.{filter}
use Rattle.words.specs.declared.key.Key.{Key}
use Rattle.lsa.specs.Origination.{sealed_lsa}
use Rattle.lsdb.specs.Copies.{Database, DatabaseCopy, is_aged_out, list_entry_of}
use Rattle.lsdb.specs.Headers.{lsa_key}
use Rattle.lsdb.specs.Instances.{ListEntry}
use Rattle.lsdb.specs.Keys.{ByKey, key_cmp}
use Rattle.lsdb.proofs.Keys.{keys_exact, keys_total}
use Rattle.packet.specs.declared.model.PacketBody.TheVariants as body
use Rattle.packet.specs.declared.model.Description.{Description}
use Rattle.packet.specs.declared.model.Packet.{Packet}
use Rattle.adjacency.specs.declared.state.NeighborState.TheVariants.{Exchange, Full, Loading}
use Rattle.adjacency.specs.Adjacencies.{enter_exstart, initial_description}
use Rattle.adjacency.specs.Contents.{Describes, Step, no_sends, then_}
use Rattle.adjacency.specs.Contents as contents
use Rattle.adjacency.specs.Descriptions.{max_age_copies, as_received, exchange_done, slave_replies}
use Rattle.adjacency.specs.Descriptions.{young_copies}
use Rattle.adjacency.specs.Neighbors.{Neighbor, fresh}
use Rattle.adjacency.specs.Requests.{next_request, still_outstanding}
use Rattle.adjacency.specs.Retransmissions.{next_retransmissions, request_again, send_again}
use Rattle.adjacency.specs.Retransmissions.{update_again}
use Rattle.received.specs.Links.{Link}
use Rattle.received.specs.AreaStates.{one_neighbor}
use Rattle.event_rules.specs.Endings.{end_event, is_at, originate_router_lsa, postpone_router_lsa}
use Rattle.event_rules.specs.Endings.{copy_has_body, loading_done, remove_aged, start_event, stays}
use Rattle.event_rules.specs.EventState.{EventState, on_area, on_router}
use Rattle.event_rules.specs.Hellos.{hello_on}
use Rattle.event_rules.specs.Originations.{flush, has_max_sequence, has_room, interval_is_over}
use Rattle.event_rules.specs.Originations.{is_recent, originate, originate_body}
use Rattle.event_rules.specs.Originations.{originate_or_postpone}
use Rattle.event_rules.specs.Originations.{postpone, router_body, router_key}
use Rattle.event_rules.specs.Packets.{after_packet}
use Rattle.event_rules.specs.Routers.{Router}
use Rattle.event_rules.specs.Ticks.{after_tick}
use Rattle.invariants.proofs.Owing.{put_same}
use Rattle.agreement_laws.proofs.WorkedEnds.{begins, describes_not_later, differ_not, describes_not}
use Rattle.agreement_laws.proofs.WorkedEnds.{ends_by, last, no_time_passes}
use Rattle.agreement_laws.proofs.WorkedOwn.{wanted}
use Rattle.agreement_laws.proofs.HistoryStart.{begun, copy, database, description_of, entries_of}
use Rattle.agreement_laws.proofs.HistoryStart.{first_times, found, link_with, lsa, no_entries}
use Rattle.agreement_laws.proofs.HistoryStart.{nothing_in, retained, router_with, stays_young}
use Rattle.agreement_laws.proofs.HistoryStart.{young}
use Rattle.agreement_laws.proofs.HistoryTicks.{tick, ticked, times}

abbrev pub a : ℕ
a = 0x0a00_0001

abbrev pub b : ℕ
b = 0x0a00_0002

abbrev pub k : Key
k = lsa_key (lsa 1 a)

-- ---- a Hello that doesn't list it

abbrev pub its_hello : Packet
its_hello = record { router = 2; body = body.Hello (hello_on (link_with b None None)) }

abbrev pub init : Neighbor
init = fresh 2 None 0

abbrev pub heard : EventState
heard = record {
  router = router_with 1 (link_with a (Some init) None) (database 1 a) (first_times 1) 0;
  sends = [];
}

pub hears : heard ≡ after_packet 0 1 its_hello (start_event 0 (begun 1 a))
hears = sym (ap (after_packet 0 1 its_hello)
    (begins 0 (begun 1 a) (no_time_passes 0 (finite.entries (database 1 a)))))

-- the copy stays in the database
kept_by : (link : Link) → finite.retain_keys (database 1 a) (stays 0 (record {
  links = link ∷ [];
  database = database 1 a;
})) ≡ database 1 a
kept_by link = retained 1 a (stays 0 (record {
  links = link ∷ [];
  database = database 1 a;
})) (stays_young 1 a (link ∷ []))

pub hears_end : end_event (begun 1 a) 0 heard ≡ heard
hears_end =
    ends_by (begun 1 a) 0 heard refl refl
    ∙ ap (λ (db : Database). record {
      router = router_with 1 (link_with a (Some init) None) db (first_times 1) 0;
      sends = [];
    })
    (kept_by (link_with a (Some init) None))

-- ---- a Tick

module _ (db : Database) where
  asks_nothing : request_again 0 5 init ≡ no_sends init
  asks_nothing =
      (λ i. cond (not (set.len-empty key_cmp i == 0) && false) (record {
        neighbor = record init {
          requested_at = 0;
        };
        sends = contents.Requests (still_outstanding init) ∷ [];
      })
      (no_sends init))

  updates_nothing : update_again 0 5 db init ≡ no_sends init
  updates_nothing =
      (λ i. cond (not (nothing_in ListEntry i) && false) (record {
        neighbor = record init {
          retransmitted_at = 0;
        };
        sends = map contents.Updates (next_retransmissions 0 db init);
      }) (no_sends init))

  sends_nothing : send_again 0 5 db init ≡ no_sends init
  sends_nothing =
      ap (λ (s : Step). then_ (then_ (no_sends init) (λ (m : Neighbor). s)) (update_again 0 5 db))
      asks_nothing
      ∙ ap (λ (s : Step). then_ (no_sends init) (λ (m : Neighbor). s)) updates_nothing

abbrev pub greets_with : EventState
greets_with = ticked 1 a (Some init)

pub greets : greets_with ≡ after_tick 0 (start_event 0 heard.router)
greets =
    sym (tick 1 a (Some init) refl (ap (λ (s : Step). Some s.neighbor)
    (sends_nothing (database 1 a))) (ap (λ (s : Step). s.sends) (sends_nothing (database 1 a))))

pub greets_end : end_event heard.router 0 greets_with ≡ greets_with
greets_end =
    ends_by heard.router 0 greets_with refl refl
    ∙ ap (λ (db : Database). record {
      router = router_with 1 (link_with a (Some init) (Some 0)) db (times 1) 0;
      sends = greets_with.sends;
    }) (kept_by (link_with a (Some init) (Some 0)))

-- ---- the initial Database Description

abbrev pub opens : Packet
opens = record { router = 2; body = body.Description (initial_description 3600) }

abbrev pub listed : ListEntry
listed = list_entry_of 0 (copy 1 a)

abbrev pub its_list : ByKey ListEntry
its_list = finite.insert finite.empty k listed

all_listed : young_copies 0 (database 1 a) ≡ its_list
all_listed =
    (λ i. finite.from_entries {R = key_cmp}
    (map (λ (e : Key × DatabaseCopy). (e.0, list_entry_of 0 e.1))
    (filter (λ e. not (is_aged_out 0 e.1)) (entries_of 1 a i))))
    ∙ (λ i. finite.from_entries {R = key_cmp}
    (map (λ (e : Key × DatabaseCopy). (e.0, list_entry_of 0 e.1))
    (cond (not (young 1 a i)) ((k, copy 1 a) ∷ []) [])))

none_aged : max_age_copies 0 (database 1 a) ≡ finite.empty
none_aged =
    (λ i. finite.from_entries {R = key_cmp}
    (map (λ (e : Key × DatabaseCopy). (e.0, list_entry_of 0 e.1))
    (filter (λ e. is_aged_out 0 e.1) (entries_of 1 a i))))
    ∙ (λ i. finite.from_entries {R = key_cmp}
    (map (λ (e : Key × DatabaseCopy). (e.0, list_entry_of 0 e.1))
    (cond (young 1 a i) ((k, copy 1 a) ∷ []) [])))

-- as the slave, with these lists
abbrev exchanging : ByKey ListEntry → ByKey ListEntry → Neighbor
exchanging summary retransmissions = record (enter_exstart 0 init).neighbor {
  state = Exchange;
  is_master = false;
  sequence = 3600;
  summary = summary;
  retransmissions = retransmissions;
  retransmitted_at = 0;
  received = Some (as_received (initial_description 3600));
}

abbrev described_by : Step → EventState
described_by s =
    on_area (λ o. one_neighbor 0 1 (λ (m : Neighbor). then_ (enter_exstart 0 init)
    (λ (x : Neighbor). s)) o) (record { router = greets_with.router; sends = [] })

-- the reply, with these entries
abbrev pub reply_of : List (Key × ListEntry) → ℕ → Description
reply_of es count = description_of false 3600 0 es count

abbrev replying : List (Key × ListEntry) → ℕ → Step
replying es count = record {
  neighbor = record (exchanging (finite.from_entries (drop 408 es)) finite.empty)
      { described = Some (reply_of es count); described_at = 0 };
  sends = Describes (reply_of es count) ∷ [];
}

or_true : (x : Bool) → (x || true) ≡ true
or_true true = refl
or_true false = refl

its_entries : finite.entries its_list ≡ (k, listed) ∷ []
its_entries = finite.entries-insert keys_total finite.empty k listed
    ∙ ap (finite.put key_cmp k listed) (no_entries ListEntry)

its_count : finite.len its_list ≡ 1
its_count = finite.len-entries its_list ∙ ap length its_entries

abbrev pub reply : Description
reply = reply_of ((k, listed) ∷ []) 1

abbrev pub replied : EventState
replied = described_by (replying ((k, listed) ∷ []) 1)

pub replies : replied ≡ after_packet 0 1 opens (start_event 0 greets_with.router)
replies =
    sym
    (ap (after_packet 0 1 opens) (begins 0 greets_with.router
    (no_time_passes 0 (finite.entries (database 1 a))))
    ∙ (λ i. described_by (slave_replies 0 (initial_description 3600)
    (exchanging (all_listed i) (none_aged i))))
    ∙ (λ i. described_by
    (cond (or_true (nat_lt 408 (finite.len its_list)) i)
    (replying (finite.entries its_list) (finite.len its_list))
    (record {
      neighbor = exchange_done 0 (replying (finite.entries its_list)
          (finite.len its_list)).neighbor;
      sends = (replying (finite.entries its_list) (finite.len its_list)).sends;
    })))
    ∙ (λ i. described_by (replying (its_entries i) (its_count i))))

abbrev asking : Neighbor → Step
asking m = record {
  neighbor = record m {
    outstanding = set.from_list (next_request m);
    requested_at = 0;
  };
  sends = contents.Requests (next_request m) ∷ [];
}

pub replies_end : end_event greets_with.router 0 replied ≡ replied
replies_end =
    let m : Neighbor = (replying ((k, listed) ∷ []) 1).neighbor in
    let later : EventState → EventState =
    λ q. last 0 (postpone_router_lsa q.router.area.links (loading_done q)) in
    ap later (describes_not greets_with.router.area.links 0 replied
    (differ_not greets_with.router.area.links replied.router.area.links refl))
    ∙ ap (last 0) (describes_not_later replied)
    ∙ (λ i. on_router (λ (r : Router). record r { moment = 0 })
    (on_area (λ o. remove_aged 0 (one_neighbor 0 1
    (λ (x : Neighbor). cond (true && not (nothing_in ListEntry i) && set.len m.outstanding == 0)
    (asking m) (no_sends m)) o)) replied))

-- ---- the last Database Description

abbrev pub last_one : Description
last_one = record {
  mtu = 8192;
  options = 2;
  init = false;
  more = false;
  master = true;
  sequence = 3601;
  headers = [];
}

abbrev pub ends_it : Packet
ends_it = record { router = 2; body = body.Description last_one }

abbrev pub answer_of : List (Key × ListEntry) → ℕ → Description
answer_of es count = description_of false 3601 0 es count

abbrev answering : List (Key × ListEntry) → ℕ → Step
answering es count = record {
  neighbor = record (exchanging (finite.from_entries (drop 408 es)) finite.empty) {
    sequence = 3601;
    received = Some (as_received last_one);
    described = Some (answer_of es count);
    described_at = 0;
  };
  sends = Describes (answer_of es count) ∷ [];
}

abbrev done_by : List (Key × ListEntry) → ℕ → Bool → Step
done_by es count nothing = record (answering es count) {
  neighbor = record (answering es count).neighbor
      { state = cond nothing Full Loading; exchanged = Some 0 };
}

abbrev pub answer : Description
answer = answer_of [] 0

abbrev pub full : Neighbor
full = (done_by [] 0 true).neighbor

abbrev with_full : Step → EventState
with_full s = on_area (λ o. one_neighbor 0 1 (λ (m : Neighbor). s) o) (record {
  router = replied.router;
  sends = [];
})

abbrev pub finished : EventState
finished = with_full (done_by [] 0 true)

pub finishes : finished ≡ after_packet 0 1 ends_it (start_event 0 replied.router)
finishes =
    sym
    (ap (after_packet 0 1 ends_it) (begins 0 replied.router
    (no_time_passes 0 (finite.entries (database 1 a))))
    ∙ (λ i.
    let es : List (Key × ListEntry) = no_entries ListEntry i in
    let count : ℕ = finite.len-empty key_cmp ListEntry i in
    with_full (cond (nat_lt 408 count || false) (answering es count)
    (done_by es count (nothing_in ListEntry i)))))

-- ---- the end of the event: the router-LSA would get a link to the Full neighbor, but
-- MinLSInterval hasn't passed

has_not_told : copy_has_body (router_body finished.router.area.links) (Some (copy 1 a)) ≡ false
unfolding sealed_lsa
has_not_told = refl

not_the_last : has_max_sequence (Some (copy 1 a)) ≡ false
unfolding sealed_lsa
not_the_last = refl

still_recent : finite.get (times 1) (router_key 1) ≡ Some 0
still_recent =
    finite.get-retain_keys (first_times 1) (λ key. is_recent 0 (finite.get (first_times 1) key))
    (router_key 1) (λ x e. ap (λ key. is_recent 0 (finite.get (first_times 1) key))
    (sym (keys_exact (router_key 1) x e)))
    ∙ (λ i. cond (is_recent 0 (first_time i)) (first_time i) None)
  where
    first_time : finite.get (first_times 1) (router_key 1) ≡ Some 0
    first_time = put_same finite.empty (router_key 1) (router_key 1) 0 refl

and_false : (x : Bool) → (x && false) ≡ false
and_false true = refl
and_false false = refl

abbrev waiting : EventState
waiting = on_router (postpone (router_key 1)) finished

waits : originate_router_lsa replied.router.area.links 0 finished ≡ waiting
waits =
    (λ i. cond (true && not (is_at 0 (still_recent i) && copy_has_body
    (router_body finished.router.area.links) (found 1 a i)))
    (originate_or_postpone 0 (router_key 1) finished) finished)
    ∙ (λ i. cond (true && not (true && has_not_told i))
    (originate_or_postpone 0 (router_key 1) finished) finished)
    ∙ ap (λ says. originate_body (has_room (router_key 1) finished.router) 0 (router_key 1) says
    finished) (wanted finished.router)
    ∙ (λ i. cond (has_max_sequence (found 1 a i)) (flush 0 (router_key 1) finished)
    (cond (has_room (router_key 1) finished.router && interval_is_over 0 (still_recent i))
    (originate 0 (router_key 1) (router_body finished.router.area.links) finished) waiting))
    ∙ (λ i. cond (not_the_last i) (flush 0 (router_key 1) finished)
    (cond (and_false (has_room (router_key 1) finished.router) i)
    (originate 0 (router_key 1) (router_body finished.router.area.links) finished) waiting))

abbrev pub at_rest : EventState
at_rest = waiting

pub finishes_end : end_event replied.router 0 finished ≡ at_rest
finishes_end =
    let later : EventState → EventState =
    λ q. last 0 (postpone_router_lsa q.router.area.links (loading_done q)) in
    ap later waits
    ∙ ap (last 0) (describes_not_later waiting)
    ∙ ap (λ (db : Database). record {
      router = record waiting.router { area = record waiting.router.area { database = db } };
      sends = finished.sends;
    }) (kept_by (link_with a (Some full) (Some 0)))

pub owes_nothing : finite.contains_key full.retransmissions (router_key 1) ≡ false
owes_nothing = ap is_some (finite.get-empty {X = ListEntry} key_cmp (router_key 1))
