-- A property of the copies of the database at every age holds of all that a step adds to a
-- retransmission list or sends in Link State Updates and Acknowledgments.
use Rattle.std.proofs.Common.{◌≤◌, ℕ, ◌+◌, ◌%◌, ◌^◌, Bool, true, false, cond, not, ◌&&◌, ◌||◌, List}
use Rattle.std.proofs.Common.{[], ◌∷◌, ◌++◌, map, Option, None, Some}
use Rattle.std.proofs.Math.Nat.{min-le_left}
use Rattle.std.specs.Prelude.{◌==◌, ◌-◌, nat_le, nat_lt}
use Rattle.std.specs.FinMap as finite
use Rattle.std.specs.FinSet as set
use Rattle.std.specs.List.{AllByRecursion, cons_option, filter, filter_map}
use Rattle.words.specs.declared.key.Key.{Key}
use Rattle.lsdb.specs.Copies.{Database, DatabaseCopy, age_now, is_aged_out, list_entry_of, lsa_now}
use Rattle.lsdb.specs.Headers.{Header, Lsa, key_of, lsa_with_age, lsa_key}
use Rattle.lsdb.specs.Instances.{ListEntry}
use Rattle.packet.specs.declared.model.Description.{Description}
use Rattle.adjacency.specs.declared.state.NeighborState.{NeighborState}
use Rattle.adjacency.specs.declared.state.NeighborState.TheVariants.{Init, ExStart, Exchange}
use Rattle.adjacency.specs.declared.state.NeighborState.TheVariants.{Loading, Full}
use Rattle.adjacency.specs.Adjacencies.{after_hello, loading_done, loading_done_in, has_passed}
use Rattle.adjacency.specs.Adjacencies.{with_hello_heard, mismatch_step, two_way_received}
use Rattle.adjacency.specs.Adjacencies.{two_way_received_in, one_way_received, requests_nothing}
use Rattle.adjacency.specs.Adjacencies.{enter_exstart, after_inactivity_timer}
use Rattle.adjacency.specs.Contents.{Content, Requests, Step, Updates, no_sends, then_}
use Rattle.adjacency.specs.Descriptions.{Verdict, accept, act, after_description, announced_more}
use Rattle.adjacency.specs.Descriptions.{exchange_done, in_state, is_over_for, process}
use Rattle.adjacency.specs.Descriptions.{send_description}
use Rattle.adjacency.specs.Descriptions.{knows_types, as_received, master_goes_on}
use Rattle.adjacency.specs.Descriptions.{negotiated_neighbor, repeat, slave_replies, verdict}
use Rattle.adjacency.specs.Descriptions.{with_requests, without_old_description}
use Rattle.adjacency.specs.Neighbors.{Neighbor, is_exchange_or_later}
use Rattle.adjacency.specs.Requests.{is_to_request, next_request, request_next, still_outstanding}
use Rattle.adjacency.specs.Retransmissions.{acknowledged_neighbor, after_acknowledgment}
use Rattle.adjacency.specs.Retransmissions.{describe_again, is_entry, lsa_of, next_retransmissions}
use Rattle.adjacency.specs.Retransmissions.{add_retransmission, retransmission_lsas}
use Rattle.adjacency.specs.Retransmissions.{remove_retransmission, repeats_description}
use Rattle.adjacency.specs.Retransmissions.{request_again, send_again, that_fit, update_again}
use Rattle.adjacency.proofs.Kept.{chosen}
use Rattle.adjacency.proofs.Maps.{AllIn, IfThere, OfEntry, entries_in, inserted_in, made_in}
use Rattle.adjacency.proofs.Maps.{none_in, removed_in}

-- a property of LSAs, headers and keys, which an LSA keeps at any valid age; and the number of
-- links, which stays the same
pub record Telling : Type 1 where
  pub of_lsa : Lsa → Type 0
  pub of_header : Header → Type 0
  pub of_key : Key → Type 0
  pub aged : (age : ℕ) (l : Lsa) → age ≤ 3600 → of_lsa l → of_lsa (lsa_with_age age l)
  pub header : (l : Lsa) → of_lsa l → of_header l.header
  pub key : (l : Lsa) → of_lsa l → of_key (lsa_key l)
  pub count : ℕ

abbrev pub OfCopy : Telling → Key → DatabaseCopy → Type 0
OfCopy t key c = t.of_lsa c.lsa

abbrev pub OfListed : Telling → Key → ListEntry → Type 0
OfListed t key l = t.of_header l.header

-- of all copies
abbrev pub OfCopies : Telling → Database → Type 0
OfCopies t db = AllIn (OfCopy t) db

-- all entries of the neighbor's retransmission list have it
abbrev pub OfOwed : Telling → Neighbor → Type 0
OfOwed t n = AllIn (OfListed t) n.retransmissions

abbrev pub OfOwedIfAny : Telling → Option Neighbor → Type 0
OfOwedIfAny t None = Unit {0}
OfOwedIfAny t (Some n) = OfOwed t n

-- what is sent has it
abbrev pub OfContent : Telling → Content → Type 0
OfContent t (Content.SendsHello h) = Unit {0}
OfContent t (Content.Describes d) = Unit {0}
OfContent t (Content.Requests keys) = Unit {0}
OfContent t (Content.Updates lsa) = t.of_lsa lsa
OfContent t (Content.Acknowledges h) = t.of_header h

pub record OfStep (t : Telling) (s : Step) : Type 0 where
  pub neighbor : OfOwed t s.neighbor
  pub sends : AllByRecursion (OfContent t) s.sends

both : {A : Type 0} (P : A → Type 0) (xs ys : List A) → AllByRecursion P xs → AllByRecursion P ys
    → AllByRecursion P (xs ++ ys)
both P [] ys p q = q
both P (x ∷ xs) ys p q = (p.0, both P xs ys p.1 q)

module _ (t : Telling) where
  -- ---- steps

  pub quiet_told : (n : Neighbor) → OfOwed t n → OfStep t (no_sends n)
  quiet_told n h = record { neighbor = h; sends = tt }

  then_told : (s : Step) (next : Neighbor → Step) → OfStep t s
      → ((n : Neighbor) → OfOwed t n → OfStep t (next n)) → OfStep t (then_ s next)
  then_told s next h each =
      let u = each s.neighbor h.neighbor in
      record {
        neighbor = u.neighbor;
        sends = both (OfContent t) s.sends (next s.neighbor).sends h.sends u.sends;
      }

  -- ---- attempts and Hellos

  restart_told : (moment : ℕ) (n : Neighbor) → OfStep t (enter_exstart moment n)
  restart_told moment n = record { neighbor = none_in (OfListed t); sends = (tt, tt) }

  pub mismatched_told : (moment : ℕ) (n : Neighbor) → OfOwed t n → OfStep t (mismatch_step moment n)
  mismatched_told moment n h = chosen (OfStep t) (is_exchange_or_later n.state)
      (enter_exstart moment n) (no_sends n) (λ e. restart_told moment n) (λ e. quiet_told n h)

  named_in_told : (s : NeighborState) (moment : ℕ) (n : Neighbor) → OfOwed t n
      → OfStep t (two_way_received_in s moment n)
  named_in_told Init moment n h = restart_told moment n
  named_in_told ExStart moment n h = quiet_told n h
  named_in_told Exchange moment n h = quiet_told n h
  named_in_told Loading moment n h = quiet_told n h
  named_in_told Full moment n h = quiet_told n h

  pub named_told : (moment : ℕ) (n : Neighbor) → OfOwed t n → OfStep t (two_way_received moment n)
  named_told moment n h = named_in_told n.state moment n h

  heard_told : (from moment : ℕ) (o : Option Neighbor) → OfOwedIfAny t o
      → OfOwed t (with_hello_heard from moment o)
  heard_told from moment None h = none_in (OfListed t)
  heard_told from moment (Some n) h = h

  pub hello_told : (moment from : ℕ) (lists_us : Bool) (o : Option Neighbor) → OfOwedIfAny t o
      → OfStep t (after_hello moment from lists_us o)
  hello_told moment from true o h =
      named_told moment (with_hello_heard from moment o) (heard_told from moment o h)
  hello_told moment from false o h =
      quiet_told (one_way_received (with_hello_heard from moment o)) (none_in (OfListed t))

  -- ---- Database Descriptions

  repeat_of : (o : Option Description) (moment : ℕ) (n : Neighbor) → OfOwed t n
      → OfStep t (repeat moment (record n { described = o }))
  repeat_of None moment n h = quiet_told (record n { described = None }) h
  repeat_of (Some d) moment n h = record { neighbor = h; sends = (tt, tt) }

  repeat_told : (moment : ℕ) (n : Neighbor) → OfOwed t n → OfStep t (repeat moment n)
  repeat_told moment n h = repeat_of n.described moment n h

  send_description_told : (moment : ℕ) (n : Neighbor) → OfOwed t n
      → OfStep t (send_description moment n)
  send_description_told moment n h = record { neighbor = h; sends = (tt, tt) }

  master_told : (moment : ℕ) (d : Description) (n : Neighbor) → OfOwed t n
      → OfStep t (master_goes_on moment d n)
  master_told moment d n h =
      let next : Neighbor = record n { sequence = (n.sequence + 1) % 2 ^ 32 } in
      chosen (OfStep t) (announced_more n.described || d.more) (send_description moment next)
      (no_sends (exchange_done moment n))
      (λ e. send_description_told moment next h) (λ e. quiet_told (exchange_done moment n) h)

  slave_told : (moment : ℕ) (d : Description) (n : Neighbor) → OfOwed t n
      → OfStep t (slave_replies moment d n)
  slave_told moment d n h =
      let next : Neighbor = record n { sequence = d.sequence } in
      let replied : Step = send_description moment next in
      chosen (OfStep t) (announced_more replied.neighbor.described || d.more) replied
      (record replied { neighbor = exchange_done moment replied.neighbor })
      (λ e. send_description_told moment next h) (λ e. record { neighbor = h; sends = (tt, tt) })

  accept_told : (moment : ℕ) (db : Database) (d : Description) (n : Neighbor) → OfOwed t n
      → OfStep t (accept moment db d n)
  accept_told moment db d n h =
      let m : Neighbor = with_requests moment db d.headers (record n {
        received = Some (as_received d);
      }) in
      chosen (OfStep t) (knows_types d)
      (cond m.is_master (master_goes_on moment d m) (slave_replies moment d m))
      (mismatch_step moment n)
      (λ e. chosen (OfStep t) m.is_master (master_goes_on moment d m) (slave_replies moment d m)
      (λ e. master_told moment d m h) (λ e. slave_told moment d m h))
      (λ e. mismatched_told moment n h)

  now_told : (moment : ℕ) (c : DatabaseCopy) → t.of_lsa c.lsa → t.of_lsa (lsa_now moment c)
  now_told moment c h = t.aged (age_now moment c) c.lsa
      (min-le_left 3600 (c.lsa.header.age + (moment - c.stored))) h

  -- the copies at MaxAge
  listed_told : (moment : ℕ) (es : List (Key × DatabaseCopy))
      → AllByRecursion (OfEntry (OfCopy t)) es
      → AllByRecursion (OfEntry (OfListed t))
      (map (λ (e : Key × DatabaseCopy). (e.0, list_entry_of moment e.1))
      (filter (λ e. is_aged_out moment e.1) es))
  listed_told moment [] h = tt
  listed_told moment (e ∷ es) h =
      by_test (is_aged_out moment e.1) (listed_told moment es h.1)
    where
      by_test : (b : Bool) → AllByRecursion (OfEntry (OfListed t))
          (map (λ (x : Key × DatabaseCopy). (x.0, list_entry_of moment x.1))
          (filter (λ x. is_aged_out moment x.1) es))
          → AllByRecursion (OfEntry (OfListed t))
          (map (λ (x : Key × DatabaseCopy). (x.0, list_entry_of moment x.1))
          (cond b (e ∷ filter (λ x. is_aged_out moment x.1) es)
          (filter (λ x. is_aged_out moment x.1) es)))
      by_test true rest = (t.header (lsa_now moment e.1) (now_told moment e.1 h.0), rest)
      by_test false rest = rest

  negotiated_told : (is_master : Bool) (sequence moment : ℕ) (db : Database) (n : Neighbor)
      → OfCopies t db → OfOwed t (negotiated_neighbor is_master sequence moment db n)
  negotiated_told is_master sequence moment db n copies =
      made_in (OfListed t) _ (listed_told moment (finite.entries db)
      (entries_in (OfCopy t) db copies))

  act_told : (v : Verdict) (moment : ℕ) (db : Database) (d : Description) (n : Neighbor)
      → OfCopies t db → OfOwed t n → OfStep t (act v moment db d n)
  act_told Verdict.Discarded moment db d n copies h = quiet_told n h
  act_told Verdict.NegotiatedAsSlave moment db d n copies h =
      accept_told moment db d (negotiated_neighbor false d.sequence moment db n)
      (negotiated_told false d.sequence moment db n copies)
  act_told Verdict.NegotiatedAsMaster moment db d n copies h =
      accept_told moment db d (negotiated_neighbor true n.sequence moment db n)
      (negotiated_told true n.sequence moment db n copies)
  act_told Verdict.Repeated moment db d n copies h = repeat_told moment n h
  act_told Verdict.Accepted moment db d n copies h = accept_told moment db d n h
  act_told Verdict.Mismatch moment db d n copies h = mismatched_told moment n h

  judge_told : (own moment : ℕ) (db : Database) (d : Description) → OfCopies t db → (n : Neighbor)
      → OfOwed t n → OfStep t (process own moment db d n)
  judge_told own moment db d copies n h = act_told (verdict own n d) moment db d n copies h

  in_state_told : (s : NeighborState) (own moment : ℕ) (db : Database) (d : Description)
      (n : Neighbor) → OfCopies t db → OfOwed t n → OfStep t (in_state s own moment db d n)
  in_state_told Init own moment db d n copies h =
      then_told (two_way_received moment n) (process own moment db d) (named_told moment n h)
      (judge_told own moment db d copies)
  in_state_told ExStart own moment db d n copies h = judge_told own moment db d copies n h
  in_state_told Exchange own moment db d n copies h = judge_told own moment db d copies n h
  in_state_told Loading own moment db d n copies h = judge_told own moment db d copies n h
  in_state_told Full own moment db d n copies h = judge_told own moment db d copies n h

  pub description_told : (own moment : ℕ) (db : Database) (d : Description) → OfCopies t db
      → (n : Neighbor) → OfOwed t n → OfStep t (after_description own moment db d n)
  description_told own moment db d copies n h =
      chosen (OfStep t) (nat_lt 8192 d.mtu) (no_sends n) (in_state n.state own moment db d n)
      (λ e. quiet_told n h)
      (λ e. in_state_told n.state own moment db d n copies h)

  -- ---- Loading and Link State Requests

  filled_in_told : (s : NeighborState) (n : Neighbor) → OfOwed t n → OfOwed t (loading_done_in s n)
  filled_in_told Init n h = h
  filled_in_told ExStart n h = h
  filled_in_told Exchange n h = h
  filled_in_told Loading n h = chosen (OfOwed t) (requests_nothing n) (record n {
    state = Full;
  }) n (λ e. h) (λ e. h)
  filled_in_told Full n h = h

  pub filled_told : (n : Neighbor) → OfOwed t n → OfOwed t (loading_done n)
  filled_told n h = filled_in_told n.state n h

  pub request_told : (moment : ℕ) (n : Neighbor) → OfOwed t n → OfStep t (request_next moment n)
  request_told moment n h =
      chosen (OfStep t) (is_to_request n)
      (record {
        neighbor = record n { outstanding = set.from_list (next_request n); requested_at = moment };
        sends = Requests (next_request n) ∷ [];
      }) (no_sends n)
      (λ e. record { neighbor = h; sends = (tt, tt) }) (λ e. quiet_told n h)

  -- ---- retransmissions

  pub released_told : (key : Key) (n : Neighbor) → OfOwed t n
      → OfOwed t (remove_retransmission key n)
  released_told key n h = removed_in (OfListed t) n.retransmissions key h

  pub owed_told : (moment : ℕ) (x : Header) (n : Neighbor) → t.of_header x → OfOwed t n
      → OfOwed t (add_retransmission moment x n)
  owed_told moment x n so h =
      inserted_in (OfListed t) (finite.remove n.retransmissions (key_of x)) (key_of x) (record {
        header = x;
        at = moment;
      })
      (removed_in (OfListed t) n.retransmissions (key_of x) h) so

  pub acknowledgment_told : (moment : ℕ) (hs : List Header) (n : Neighbor) → OfOwed t n
      → OfOwed t (after_acknowledgment moment hs n)
  acknowledgment_told moment [] n h = h
  acknowledgment_told moment (x ∷ hs) n h =
      acknowledgment_told moment hs (acknowledged_neighbor moment n x)
      (chosen (OfOwed t) (is_entry moment x (finite.get n.retransmissions (key_of x)))
      (remove_retransmission (key_of x) n) n (λ e. released_told (key_of x) n h) (λ e. h))

  -- ---- copies

  pub lsa_now_told : (moment : ℕ) (c : DatabaseCopy) → t.of_lsa c.lsa → t.of_lsa (lsa_now moment c)
  lsa_now_told moment c h = now_told moment c h

  copied_told : (moment : ℕ) (key : Key) (o : Option DatabaseCopy) (rest : List Lsa)
      → IfThere (OfCopy t) key o → AllByRecursion t.of_lsa rest
      → AllByRecursion t.of_lsa (cons_option (lsa_of moment o) rest)
  copied_told moment key None rest so all = all
  copied_told moment key (Some c) rest so all = (now_told moment c so, all)

  -- those of any keys, with their ages at the moment
  pub copies_told : (moment : ℕ) (db : Database) → OfCopies t db → (keys : List Key)
      → AllByRecursion t.of_lsa (filter_map (λ (key : Key). lsa_of moment (finite.get db key)) keys)
  copies_told moment db copies [] = tt
  copies_told moment db copies (key ∷ keys) =
      copied_told moment key (finite.get db key)
      (filter_map (λ (k : Key). lsa_of moment (finite.get db k)) keys) (copies key)
      (copies_told moment db copies keys)

  first_told : (used : ℕ) (lsas : List Lsa) → AllByRecursion t.of_lsa lsas
      → AllByRecursion t.of_lsa (that_fit used lsas)
  first_told used [] all = tt
  first_told used (l ∷ ls) all =
      chosen (AllByRecursion t.of_lsa) (nat_le (used + l.header.length) 8192)
      (l ∷ that_fit (used + l.header.length) ls) []
      (λ e. (all.0, first_told (used + l.header.length) ls all.1)) (λ e. tt)

  pub updates_told : (lsas : List Lsa) → AllByRecursion t.of_lsa lsas
      → AllByRecursion (OfContent t) (map Updates lsas)
  updates_told [] all = tt
  updates_told (l ∷ ls) all = (all.0, updates_told ls all.1)

  -- ---- what a Tick retransmits

  describe_again_told : (moment interval : ℕ) (n : Neighbor) → OfOwed t n
      → OfStep t (describe_again moment interval n)
  describe_again_told moment interval n h =
      chosen (OfStep t) (repeats_description n.state n.is_master && has_passed n.described_at
      interval moment) (repeat moment n) (no_sends n)
      (λ e. repeat_told moment n h) (λ e. quiet_told n h)

  request_again_told : (moment interval : ℕ) (n : Neighbor) → OfOwed t n
      → OfStep t (request_again moment interval n)
  request_again_told moment interval n h =
      chosen (OfStep t) (not (set.len n.outstanding == 0) && has_passed n.requested_at interval
      moment)
      (record {
        neighbor = record n { requested_at = moment };
        sends = Requests (still_outstanding n) ∷ [];
      }) (no_sends n)
      (λ e. record { neighbor = h; sends = (tt, tt) }) (λ e. quiet_told n h)

  update_again_told : (moment interval : ℕ) (db : Database) (n : Neighbor) → OfCopies t db
      → OfOwed t n → OfStep t (update_again moment interval db n)
  update_again_told moment interval db n copies h =
      let lsas : AllByRecursion t.of_lsa (next_retransmissions moment db n) =
      first_told 28 (retransmission_lsas moment db n)
      (copies_told moment db copies (finite.keys n.retransmissions)) in
      chosen (OfStep t) (not (finite.len n.retransmissions == 0) && has_passed n.retransmitted_at
      interval moment)
      (record {
        neighbor = record n { retransmitted_at = moment };
        sends = map Updates (next_retransmissions moment db n);
      }) (no_sends n)
      (λ e. record {
        neighbor = h;
        sends = updates_told (next_retransmissions moment db n) lsas;
      }) (λ e. quiet_told n h)

  pub again_told : (moment interval : ℕ) (db : Database) (n : Neighbor) → OfCopies t db → OfOwed t n
      → OfStep t (send_again moment interval db n)
  again_told moment interval db n copies h =
      then_told (then_ (describe_again moment interval n) (request_again moment interval))
      (update_again moment interval db)
      (then_told (describe_again moment interval n) (request_again moment interval)
      (describe_again_told moment interval n h) (request_again_told moment interval))
      (λ m k. update_again_told moment interval db m copies k)

  -- ---- timers that have expired

  pub still_heard_told : (moment dead : ℕ) (o : Option Neighbor) → OfOwedIfAny t o
      → OfOwedIfAny t (after_inactivity_timer moment dead o)
  still_heard_told moment dead None h = tt
  still_heard_told moment dead (Some n) h =
      chosen (OfOwedIfAny t) (has_passed n.last_heard dead moment) None (Some n) (λ e. tt) (λ e. h)

  pub old_description_told : (moment dead : ℕ) (n : Neighbor) → OfOwed t n
      → OfOwed t (without_old_description moment dead n)
  old_description_told moment dead n h =
      chosen (OfOwed t) (is_over_for moment dead n.exchanged) (record n {
        described = None;
      }) n (λ e. h) (λ e. h)
