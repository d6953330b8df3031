-- Each step of the neighbor state machine keeps lists that fit into packets, and sends what fits.
use Rattle.std.proofs.Common.{◌≡◌, ◌≤◌, ℕ, zero, suc, ◌+◌, ◌-◌, ◌%◌, ◌^◌, T, Bool, true, false}
use Rattle.std.proofs.Common.{cond, not, ◌&&◌, ◌||◌, List, [], ◌∷◌, ◌++◌, map, take, length}
use Rattle.std.proofs.Common.{is_some, Option, None, Some, refl, sym, ap, subst, ◌∙◌, true≢false}
use Rattle.std.proofs.Common.{arith, length-append}
use Rattle.std.specs.Prelude.{◌==◌, nat_le, nat_lt}
use Rattle.std.specs.List.{AllByRecursion, cons_option, filter, filter_map}
use Rattle.std.specs.FinMap as finite
use Rattle.std.specs.FinMap.Entries.{below_all, is_sorted}
use Rattle.std.specs.FinSet as set
use Rattle.std.specs.Ordering.{is_eq, is_lt, ordering_reverse}
use Rattle.std.specs.declared.cmp.Ordering.{Ordering}
use Rattle.std.specs.declared.cmp.Ordering.TheVariants.{Less, Equal, Greater}
use Rattle.std.proofs.Math.Nat.{min-le_left}
use Rattle.std.proofs.lemmas.List.{length-map, length-take}
use Rattle.words.specs.declared.key.Key.{Key}
use Rattle.lsa.specs.Headers.{header_text}
use Rattle.lsa.specs.Text.{body_text, text}
use Rattle.lsdb.specs.Copies.{Database, DatabaseCopy, age_now, lsa_now}
use Rattle.lsdb.specs.Headers.{Header, Lsa, key_of, lsa_with_age}
use Rattle.lsdb.specs.Keys.{KeySet, key_cmp}
use Rattle.lsdb.proofs.Keys.{keys_total}
use Rattle.packet.specs.declared.model.Description.{Description}
use Rattle.adjacency.specs.declared.state.NeighborState.{NeighborState}
use Rattle.adjacency.specs.declared.state.NeighborState.TheVariants.{Init, ExStart, Exchange}
use Rattle.adjacency.specs.declared.state.NeighborState.TheVariants.{Loading, Full}
use Rattle.adjacency.specs.Adjacencies.{after_hello, loading_done, loading_done_in, has_passed}
use Rattle.adjacency.specs.Adjacencies.{with_hello_heard, mismatch_step, two_way_received}
use Rattle.adjacency.specs.Adjacencies.{two_way_received_in, next_dd_sequence_start}
use Rattle.adjacency.specs.Adjacencies.{one_way_received, initial_description, requests_nothing}
use Rattle.adjacency.specs.Adjacencies.{enter_exstart, after_inactivity_timer}
use Rattle.adjacency.specs.Contents.{Requests, Step, Updates, no_sends, then_}
use Rattle.adjacency.specs.Descriptions.{Verdict, accept, act, after_description, announced_more}
use Rattle.adjacency.specs.Descriptions.{exchange_done, in_state, is_over_for, process}
use Rattle.adjacency.specs.Descriptions.{send_description}
use Rattle.adjacency.specs.Descriptions.{knows_types, as_received, master_goes_on}
use Rattle.adjacency.specs.Descriptions.{negotiated_neighbor, next_description, repeat}
use Rattle.adjacency.specs.Descriptions.{slave_replies, verdict, with_requests}
use Rattle.adjacency.specs.Descriptions.{without_old_description}
use Rattle.adjacency.specs.Neighbors.{Neighbor, fresh, is_exchange_or_later}
use Rattle.adjacency.specs.Requests.{is_to_request, next_request, request_next, still_outstanding}
use Rattle.adjacency.specs.Requests.{without_request}
use Rattle.adjacency.specs.Retransmissions.{acknowledged_neighbor, after_acknowledgment}
use Rattle.adjacency.specs.Retransmissions.{describe_again, is_entry, lsa_of, next_retransmissions}
use Rattle.adjacency.specs.Retransmissions.{add_retransmission, retransmission_lsas}
use Rattle.adjacency.specs.Retransmissions.{remove_retransmission, repeats_description}
use Rattle.adjacency.specs.Retransmissions.{request_again, send_again, that_fit, update_again}
use Rattle.adjacency.specs.Rooms.{AllFit, Fits, HasRoom, HasRoomyLists, HasRoomyListsIfAny}
use Rattle.adjacency.specs.Rooms.{IsRoomyStep, StepsHaveRoom}
use Rattle.adjacency.proofs.Kept.{chosen}

-- ---- sets of keys

one_more : (b : Bool) (n m : ℕ) → n ≤ m → cond b n (n + 1) ≤ m + 1
one_more true n m h = omega (arith, h)
one_more false n m h = omega (arith, h)

-- a set built from a list has no more items than the list
pub made_few : (keys : List Key) → set.len (set.from_list {R = key_cmp} keys) ≤ length keys
made_few [] = subst (λ (n : ℕ). n ≤ 0) (sym (set.len-empty key_cmp)) (omega arith)
made_few (key ∷ keys) =
    let made : KeySet = set.from_list keys in
    let more : cond (set.contains made key) (set.len made) (set.len made + 1) ≤ length keys + 1 =
    one_more (set.contains made key) (set.len made) (length keys) (made_few keys) in
    omega (arith, set.len-insert keys_total made key, more)

one_less : (b : Bool) (n : ℕ) → cond b (n - 1) n ≤ n
one_less true n = omega arith
one_less false n = omega arith

-- a set without a key has no more items than before
pub left_few : (s : KeySet) (key : Key) → set.len (set.remove s key) ≤ set.len s
left_few s key = omega (
  arith,
  set.len-remove keys_total s key,
  one_less (set.contains s key) (set.len s),
)

pub none_few : set.len (set.empty {R = key_cmp}) ≤ 680
none_few = omega (arith, set.len-empty key_cmp)

-- ---- the keys of a map that are in a set

test_parts : (a b : Bool) → T (a && b) → T a × T b
test_parts true b t = (tt, t)
test_parts false b t = absurd t

not_tied : (o : Ordering) → T (is_lt o) → is_eq (ordering_reverse o) ≡ false
not_tied Less t = refl
not_tied Equal t = absurd t
not_tied Greater t = absurd t

-- removing a key doesn't change whether the set has a greater one
apart : (key : Key) (s : KeySet) (x : Key) → T (is_lt (key_cmp key x))
    → set.contains (set.remove s key) x ≡ set.contains s x
apart key s x less =
    set.contains-remove keys_total s key x
    ∙ ap (λ (b : Bool). not b && set.contains s x)
    (ap is_eq (keys_total.antisymm x key) ∙ not_tied (key_cmp key x) less)

rest_same : {X : Type 0} (key : Key) (s : KeySet) (es : List (Key × X))
    → T (below_all key_cmp key es) → filter (set.contains (set.remove s key)) (map (λ e. e.0) es)
    ≡ filter (set.contains s) (map (λ e. e.0) es)
rest_same key s [] below = refl
rest_same key s (e ∷ es) below =
    let parts = test_parts (is_lt (key_cmp key e.0)) (below_all key_cmp key es) below in
    λ i. cond (apart key s e.0 parts.0 i) (e.0 ∷ rest_same key s es parts.1 i)
    (rest_same key s es parts.1 i)

has_one : (s : KeySet) (key : Key) → set.contains s key ≡ true → (n : ℕ) → set.len s ≡ n → 1 ≤ n
has_one s key is zero e =
    absurd (true≢false (sym is ∙ ap (λ (t : KeySet). set.contains t key) (set.empty_of_len s e)
    ∙ set.contains-empty key_cmp key))
has_one s key is (suc n) e = omega arith

abbrev IsWithin : {X : Type 0} → List (Key × X) → KeySet → Type 0
IsWithin es s = length (filter (set.contains s) (map (λ e. e.0) es)) ≤ set.len s

one_and_rest : {X : Type 0} (e : Key × X) (es : List (Key × X)) (s : KeySet)
    → T (below_all key_cmp e.0 es) → IsWithin es (set.remove s e.0) → IsWithin es s → (b : Bool)
    → set.contains s e.0 ≡ b → length
    (cond b (e.0 ∷ filter (set.contains s) (map (λ x. x.0) es))
    (filter (set.contains s) (map (λ x. x.0) es))) ≤ set.len s
one_and_rest e es s below without with_it true is =
    let left : set.len (set.remove s e.0) ≡ set.len s - 1 =
    set.len-remove keys_total s e.0
    ∙ ap (λ (b : Bool). cond b (set.len s - 1) (set.len s)) is in
    let same : length (filter (set.contains (set.remove s e.0)) (map (λ x. x.0) es))
    ≡ length (filter (set.contains s) (map (λ x. x.0) es)) =
    ap length (rest_same e.0 s es below) in
    omega (arith, left, same, has_one s e.0 is (set.len s) refl, without)
one_and_rest e es s below without with_it false is = with_it

-- the number of a map's keys that are in a set is at most the set's number of items
chosen_few : {X : Type 0} (es : List (Key × X)) → T (is_sorted key_cmp es) → (s : KeySet)
    → IsWithin es s
chosen_few [] sorted s = omega arith
chosen_few (e ∷ es) sorted s =
    let parts : T (below_all key_cmp e.0 es) × T (is_sorted key_cmp es) =
    test_parts (below_all key_cmp e.0 es) (is_sorted key_cmp es) sorted in
    one_and_rest e es s parts.0 (chosen_few es parts.1 (set.remove s e.0)) (chosen_few es parts.1 s)
    (set.contains s e.0) refl

pub outstanding_few : (n : Neighbor) → length (still_outstanding n) ≤ set.len n.outstanding
outstanding_few n = chosen_few (finite.entries n.requests) (finite.entries_sorted n.requests)
    n.outstanding

-- ---- what fits

abbrev pub IsShort : Option Description → Type 0
IsShort o = (d : Description) → o ≡ Some d → length d.headers ≤ 408

abbrev pub IsFew : KeySet → Type 0
IsFew s = set.len s ≤ 680

headers_in : Option Description → ℕ
headers_in None = 0
headers_in (Some d) = length d.headers

pub no_description : IsShort None
no_description d e = absurd (true≢false (sym (ap is_some e)))

pub one_description : (d : Description) → length d.headers ≤ 408 → IsShort (Some d)
unfolding headers_in
one_description d h c e = subst (λ (n : ℕ). n ≤ 408) (ap headers_in e) h

pub roomy : (n : Neighbor) → IsShort n.described → IsFew n.outstanding → HasRoomyLists n
roomy n d o = record { described = d; outstanding = o }

pub fresh_roomy : (router : ℕ) (dd_sequence_start : Option ℕ) (last_heard : ℕ)
    → HasRoomyLists (fresh router dd_sequence_start last_heard)
fresh_roomy router dd_sequence_start last_heard =
    roomy (fresh router dd_sequence_start last_heard) no_description none_few

-- ---- steps

both : {X : Type 0} (P : X → Type 0) (xs ys : List X) → AllByRecursion P xs → AllByRecursion P ys
    → AllByRecursion P (xs ++ ys)
both P [] ys p q = q
both P (x ∷ xs) ys p q = (p.0, both P xs ys p.1 q)

step : (s : Step) → IsShort s.neighbor.described → IsFew s.neighbor.outstanding
    → AllByRecursion HasRoom s.sends → IsRoomyStep s
step s d o sends = record { neighbor = roomy s.neighbor d o; sends = sends }

pub quiet_roomy : (n : Neighbor) → HasRoomyLists n → IsRoomyStep (no_sends n)
quiet_roomy n h = record { neighbor = h; sends = tt }

pub then_roomy : (s : Step) (next : Neighbor → Step) → IsRoomyStep s
    → ((n : Neighbor) → HasRoomyLists n → IsRoomyStep (next n)) → IsRoomyStep (then_ s next)
then_roomy s next first each =
    let second : IsRoomyStep (next s.neighbor) = each s.neighbor first.neighbor in
    record {
      neighbor = second.neighbor;
      sends = both HasRoom s.sends (next s.neighbor).sends first.sends second.sends;
    }

-- ---- attempts and Hellos

pub opening_short : (sequence : ℕ) → length (initial_description sequence).headers ≤ 408
opening_short sequence = omega arith

pub restart_roomy : (moment : ℕ) (n : Neighbor) → IsRoomyStep (enter_exstart moment n)
restart_roomy moment n =
    let first : Description = initial_description
    (next_dd_sequence_start moment n.dd_sequence_start) in
    step (enter_exstart moment n) (one_description first
    (opening_short (next_dd_sequence_start moment n.dd_sequence_start))) none_few
    (opening_short (next_dd_sequence_start moment n.dd_sequence_start), tt)

pub mismatched_roomy : (moment : ℕ) (n : Neighbor) → HasRoomyLists n
    → IsRoomyStep (mismatch_step moment n)
mismatched_roomy moment n h = chosen IsRoomyStep (is_exchange_or_later n.state)
    (enter_exstart moment n) (no_sends n) (λ e. restart_roomy moment n) (λ e. quiet_roomy n h)

named_in_roomy : (s : NeighborState) (moment : ℕ) (n : Neighbor) → HasRoomyLists n
    → IsRoomyStep (two_way_received_in s moment n)
named_in_roomy Init moment n h = restart_roomy moment n
named_in_roomy ExStart moment n h = quiet_roomy n h
named_in_roomy Exchange moment n h = quiet_roomy n h
named_in_roomy Loading moment n h = quiet_roomy n h
named_in_roomy Full moment n h = quiet_roomy n h

pub named_roomy : (moment : ℕ) (n : Neighbor) → HasRoomyLists n
    → IsRoomyStep (two_way_received moment n)
named_roomy moment n h = named_in_roomy n.state moment n h

pub heard_roomy : (from moment : ℕ) (o : Option Neighbor) → HasRoomyListsIfAny o
    → HasRoomyLists (with_hello_heard from moment o)
heard_roomy from moment None h = fresh_roomy from None moment
heard_roomy from moment (Some n) h = roomy (record n {
  last_heard = moment;
}) h.described h.outstanding

pub hello_roomy : (moment from : ℕ) (lists_us : Bool) (o : Option Neighbor) → HasRoomyListsIfAny o
    → IsRoomyStep (after_hello moment from lists_us o)
hello_roomy moment from true o h =
    named_roomy moment (with_hello_heard from moment o) (heard_roomy from moment o h)
hello_roomy moment from false o h =
    let n : Neighbor = with_hello_heard from moment o in
    quiet_roomy (one_way_received n) (fresh_roomy n.router n.dd_sequence_start n.last_heard)

-- ---- Database Descriptions

repeat_of : (o : Option Description) (moment : ℕ) (n : Neighbor) → IsShort o → IsFew n.outstanding
    → IsRoomyStep (repeat moment (record n { described = o }))
repeat_of None moment n short few = quiet_roomy (record n {
  described = None;
}) (roomy (record n { described = None }) short few)
repeat_of (Some d) moment n short few = step (repeat moment (record n {
  described = Some d;
})) short few (short d refl, tt)

pub repeat_roomy : (moment : ℕ) (n : Neighbor) → HasRoomyLists n → IsRoomyStep (repeat moment n)
repeat_roomy moment n h = repeat_of n.described moment n h.described h.outstanding

pub next_short : (moment : ℕ) (n : Neighbor) → length (next_description moment n).headers ≤ 408
next_short moment n =
    subst (λ (k : ℕ). k ≤ 408) (sym (length-map (take 408 (finite.entries n.summary)) _
    ∙ length-take 408 (finite.entries n.summary)))
    (min-le_left 408 (length (finite.entries n.summary)))

pub send_description_roomy : (moment : ℕ) (n : Neighbor) → IsFew n.outstanding
    → IsRoomyStep (send_description moment n)
send_description_roomy moment n few = step (send_description moment n)
    (one_description (next_description moment n) (next_short moment n)) few
    (next_short moment n, tt)

done_roomy : (moment : ℕ) (n : Neighbor) → HasRoomyLists n → HasRoomyLists (exchange_done moment n)
done_roomy moment n h = roomy (exchange_done moment n) h.described h.outstanding

master_roomy : (moment : ℕ) (d : Description) (n : Neighbor) → HasRoomyLists n
    → IsRoomyStep (master_goes_on moment d n)
master_roomy moment d n h =
    let next : Neighbor = record n { sequence = (n.sequence + 1) % 2 ^ 32 } in
    chosen IsRoomyStep (announced_more n.described || d.more) (send_description moment next)
    (no_sends (exchange_done moment n))
    (λ e. send_description_roomy moment next h.outstanding)
    (λ e. quiet_roomy (exchange_done moment n) (done_roomy moment n h))

slave_roomy : (moment : ℕ) (d : Description) (n : Neighbor) → HasRoomyLists n
    → IsRoomyStep (slave_replies moment d n)
slave_roomy moment d n h =
    let next : Neighbor = record n { sequence = d.sequence } in
    let replied : Step = send_description moment next in
    let room : IsRoomyStep replied = send_description_roomy moment next h.outstanding in
    chosen IsRoomyStep (announced_more replied.neighbor.described || d.more) replied
    (record replied { neighbor = exchange_done moment replied.neighbor })
    (λ e. room) (λ e. record {
      neighbor = done_roomy moment replied.neighbor room.neighbor;
      sends = room.sends;
    })

accept_roomy : (moment : ℕ) (db : Database) (d : Description) (n : Neighbor) → HasRoomyLists n
    → IsRoomyStep (accept moment db d n)
accept_roomy moment db d n h =
    let m : Neighbor = with_requests moment db d.headers (record n {
      received = Some (as_received d);
    }) in
    let asked : HasRoomyLists m = roomy m h.described h.outstanding in
    chosen IsRoomyStep (knows_types d)
    (cond m.is_master (master_goes_on moment d m) (slave_replies moment d m))
    (mismatch_step moment n)
    (λ e. chosen IsRoomyStep m.is_master (master_goes_on moment d m) (slave_replies moment d m)
    (λ e. master_roomy moment d m asked) (λ e. slave_roomy moment d m asked))
    (λ e. mismatched_roomy moment n h)

negotiated_roomy : (is_master : Bool) (sequence moment : ℕ) (db : Database) (n : Neighbor)
    → HasRoomyLists n → HasRoomyLists (negotiated_neighbor is_master sequence moment db n)
negotiated_roomy is_master sequence moment db n h =
    roomy (negotiated_neighbor is_master sequence moment db n) h.described h.outstanding

act_roomy : (v : Verdict) (moment : ℕ) (db : Database) (d : Description) (n : Neighbor)
    → HasRoomyLists n → IsRoomyStep (act v moment db d n)
act_roomy Verdict.Discarded moment db d n h = quiet_roomy n h
act_roomy Verdict.NegotiatedAsSlave moment db d n h =
    accept_roomy moment db d (negotiated_neighbor false d.sequence moment db n)
    (negotiated_roomy false d.sequence moment db n h)
act_roomy Verdict.NegotiatedAsMaster moment db d n h =
    accept_roomy moment db d (negotiated_neighbor true n.sequence moment db n)
    (negotiated_roomy true n.sequence moment db n h)
act_roomy Verdict.Repeated moment db d n h = repeat_roomy moment n h
act_roomy Verdict.Accepted moment db d n h = accept_roomy moment db d n h
act_roomy Verdict.Mismatch moment db d n h = mismatched_roomy moment n h

judge_roomy : (own moment : ℕ) (db : Database) (d : Description) (n : Neighbor) → HasRoomyLists n
    → IsRoomyStep (process own moment db d n)
judge_roomy own moment db d n h = act_roomy (verdict own n d) moment db d n h

in_state_roomy : (s : NeighborState) (own moment : ℕ) (db : Database) (d : Description)
    (n : Neighbor) → HasRoomyLists n → IsRoomyStep (in_state s own moment db d n)
in_state_roomy Init own moment db d n h =
    then_roomy (two_way_received moment n) (process own moment db d) (named_roomy moment n h)
    (judge_roomy own moment db d)
in_state_roomy ExStart own moment db d n h = judge_roomy own moment db d n h
in_state_roomy Exchange own moment db d n h = judge_roomy own moment db d n h
in_state_roomy Loading own moment db d n h = judge_roomy own moment db d n h
in_state_roomy Full own moment db d n h = judge_roomy own moment db d n h

pub description_roomy : (own moment : ℕ) (db : Database) (d : Description) (n : Neighbor)
    → HasRoomyLists n → IsRoomyStep (after_description own moment db d n)
description_roomy own moment db d n h =
    chosen IsRoomyStep (nat_lt 8192 d.mtu) (no_sends n) (in_state n.state own moment db d n)
    (λ e. quiet_roomy n h) (λ e. in_state_roomy n.state own moment db d n h)

-- ---- Loading and Link State Requests

filled_in_roomy : (s : NeighborState) (n : Neighbor) → HasRoomyLists n
    → HasRoomyLists (loading_done_in s n)
filled_in_roomy Init n h = h
filled_in_roomy ExStart n h = h
filled_in_roomy Exchange n h = h
filled_in_roomy Loading n h =
    chosen HasRoomyLists (requests_nothing n) (record n {
      state = Full;
    }) n (λ e. roomy (record n { state = Full }) h.described h.outstanding) (λ e. h)
filled_in_roomy Full n h = h

pub filled_roomy : (n : Neighbor) → HasRoomyLists n → HasRoomyLists (loading_done n)
filled_roomy n h = filled_in_roomy n.state n h

pub keys_short : (n : Neighbor) → length (next_request n) ≤ 680
keys_short n = subst (λ (k : ℕ). k ≤ 680) (sym (length-take 680 (finite.keys n.requests)))
    (min-le_left 680 (length (finite.keys n.requests)))

pub made_within : (keys : List Key) → length keys ≤ 680 → IsFew (set.from_list keys)
made_within keys h = omega (arith, made_few keys, h)

pub request_roomy : (moment : ℕ) (n : Neighbor) → HasRoomyLists n
    → IsRoomyStep (request_next moment n)
request_roomy moment n h =
    let asked : Step = record {
      neighbor = record n { outstanding = set.from_list (next_request n); requested_at = moment };
      sends = Requests (next_request n) ∷ [];
    } in
    chosen IsRoomyStep (is_to_request n) asked (no_sends n)
    (λ e. step asked h.described (made_within (next_request n) (keys_short n)) (keys_short n, tt))
    (λ e. quiet_roomy n h)

pub met_roomy : (key : Key) (n : Neighbor) → HasRoomyLists n → HasRoomyLists (without_request key n)
met_roomy key n h = roomy (without_request key n) h.described
    (omega (arith, left_few n.outstanding key, h.outstanding))

-- ---- retransmissions

pub released_roomy : (key : Key) (n : Neighbor) → HasRoomyLists n
    → HasRoomyLists (remove_retransmission key n)
released_roomy key n h = roomy (remove_retransmission key n) h.described h.outstanding

pub owed_roomy : (moment : ℕ) (x : Header) (n : Neighbor) → HasRoomyLists n
    → HasRoomyLists (add_retransmission moment x n)
owed_roomy moment x n h = roomy (add_retransmission moment x n) h.described h.outstanding

pub acknowledgment_roomy : (moment : ℕ) (hs : List Header) (n : Neighbor) → HasRoomyLists n
    → HasRoomyLists (after_acknowledgment moment hs n)
acknowledgment_roomy moment [] n h = h
acknowledgment_roomy moment (x ∷ hs) n h =
    acknowledgment_roomy moment hs (acknowledged_neighbor moment n x)
    (chosen HasRoomyLists (is_entry moment x (finite.get n.retransmissions (key_of x)))
    (remove_retransmission (key_of x) n) n (λ e. released_roomy (key_of x) n h) (λ e. h))

-- ---- LSAs at another age

aged_length : (age : ℕ) (lsa : Lsa) → length (text (lsa_with_age age lsa)) ≡ length (text lsa)
aged_length age lsa = length-append (header_text (lsa_with_age age lsa).header) (body_text lsa.body)
    ∙ sym (length-append (header_text lsa.header) (body_text lsa.body))

pub aged_fits : (age : ℕ) (lsa : Lsa) → Fits lsa → Fits (lsa_with_age age lsa)
aged_fits age lsa h = (aged_length age lsa ∙ h.0, h.1)

pub now_fits : (moment : ℕ) (c : DatabaseCopy) → Fits c.lsa → Fits (lsa_now moment c)
now_fits moment c h = aged_fits (age_now moment c) c.lsa h

copied_fit : (moment : ℕ) (o : Option DatabaseCopy) (rest : List Lsa)
    → ((c : DatabaseCopy) → o ≡ Some c → Fits c.lsa) → AllByRecursion Fits rest
    → AllByRecursion Fits (cons_option (lsa_of moment o) rest)
copied_fit moment None rest fit all = all
copied_fit moment (Some c) rest fit all = (now_fits moment c (fit c refl), all)

-- the copies of any keys, with their ages at the moment
pub copies_fit : (moment : ℕ) (db : Database) → AllFit db → (keys : List Key)
    → AllByRecursion Fits (filter_map (λ (key : Key). lsa_of moment (finite.get db key)) keys)
copies_fit moment db fit [] = tt
copies_fit moment db fit (key ∷ keys) =
    copied_fit moment (finite.get db key)
    (filter_map (λ (k : Key). lsa_of moment (finite.get db k)) keys) (fit key)
    (copies_fit moment db fit keys)

first_fit : (used : ℕ) (lsas : List Lsa) → AllByRecursion Fits lsas
    → AllByRecursion Fits (that_fit used lsas)
first_fit used [] all = tt
first_fit used (l ∷ ls) all =
    chosen (AllByRecursion Fits) (nat_le (used + l.header.length) 8192)
    (l ∷ that_fit (used + l.header.length) ls) []
    (λ e. (all.0, first_fit (used + l.header.length) ls all.1)) (λ e. tt)

pub updates_room : (lsas : List Lsa) → AllByRecursion Fits lsas
    → AllByRecursion HasRoom (map Updates lsas)
updates_room [] all = tt
updates_room (l ∷ ls) all = (all.0, updates_room ls all.1)

-- ---- what a Tick retransmits

pub describe_again_roomy : (moment interval : ℕ) (n : Neighbor) → HasRoomyLists n
    → IsRoomyStep (describe_again moment interval n)
describe_again_roomy moment interval n h =
    chosen IsRoomyStep (repeats_description n.state n.is_master && has_passed n.described_at
    interval moment) (repeat moment n) (no_sends n)
    (λ e. repeat_roomy moment n h) (λ e. quiet_roomy n h)

pub request_again_roomy : (moment interval : ℕ) (n : Neighbor) → HasRoomyLists n
    → IsRoomyStep (request_again moment interval n)
request_again_roomy moment interval n h =
    let asked : Step = record {
      neighbor = record n { requested_at = moment };
      sends = Requests (still_outstanding n) ∷ [];
    } in
    let short : length (still_outstanding n) ≤ 680 =
    omega (arith, outstanding_few n, h.outstanding) in
    chosen IsRoomyStep (not (set.len n.outstanding == 0) && has_passed n.requested_at interval
    moment) asked (no_sends n)
    (λ e. step asked h.described h.outstanding (short, tt)) (λ e. quiet_roomy n h)

pub update_again_roomy : (moment interval : ℕ) (db : Database) (n : Neighbor) → AllFit db
    → HasRoomyLists n → IsRoomyStep (update_again moment interval db n)
update_again_roomy moment interval db n fit h =
    let resent : Step = record {
      neighbor = record n { retransmitted_at = moment };
      sends = map Updates (next_retransmissions moment db n);
    } in
    let lsas : AllByRecursion Fits (next_retransmissions moment db n) =
    first_fit 28 (retransmission_lsas moment db n)
    (copies_fit moment db fit (finite.keys n.retransmissions)) in
    chosen IsRoomyStep (not (finite.len n.retransmissions == 0) && has_passed n.retransmitted_at
    interval moment) resent (no_sends n)
    (λ e. step resent h.described h.outstanding
    (updates_room (next_retransmissions moment db n) lsas)) (λ e. quiet_roomy n h)

pub again_roomy : (moment interval : ℕ) (db : Database) (n : Neighbor) → AllFit db → HasRoomyLists n
    → IsRoomyStep (send_again moment interval db n)
again_roomy moment interval db n fit h =
    then_roomy (then_ (describe_again moment interval n) (request_again moment interval))
    (update_again moment interval db)
    (then_roomy (describe_again moment interval n) (request_again moment interval)
    (describe_again_roomy moment interval n h) (request_again_roomy moment interval))
    (λ m k. update_again_roomy moment interval db m fit k)

-- ---- timers that have expired

pub still_heard_roomy : (moment dead : ℕ) (o : Option Neighbor) → HasRoomyListsIfAny o
    → HasRoomyListsIfAny (after_inactivity_timer moment dead o)
still_heard_roomy moment dead None h = tt
still_heard_roomy moment dead (Some n) h =
    chosen HasRoomyListsIfAny (has_passed n.last_heard dead moment) None (Some n) (λ e. tt) (λ e. h)

pub old_description_roomy : (moment dead : ℕ) (n : Neighbor) → HasRoomyLists n
    → HasRoomyLists (without_old_description moment dead n)
old_description_roomy moment dead n h =
    chosen HasRoomyLists (is_over_for moment dead n.exchanged) (record n {
      described = None;
    }) n (λ e. roomy (record n { described = None }) no_description h.outstanding) (λ e. h)

-- ---- the law

pub steps_roomy : StepsHaveRoom
steps_roomy = record {
  two_way = named_roomy;
  hello = hello_roomy;
  description = description_roomy;
  request_next = request_roomy;
  send_again = again_roomy;
}
