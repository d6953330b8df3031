-- A fact about a neighbor's state and lists holds after every step, if it holds at the start of
-- each exchange and the few changes of the lists keep it.
use Rattle.std.proofs.Common.{◌≡◌, ℕ, ◌+◌, ◌%◌, ◌^◌, Bool, true, false, cond, not, ◌&&◌, ◌||◌, List}
use Rattle.std.proofs.Common.{[], ◌∷◌, map, take, Option, None, Some, refl}
use Rattle.std.specs.Prelude.{◌==◌, nat_lt}
use Rattle.std.specs.FinMap as finite
use Rattle.std.specs.FinSet as set
use Rattle.words.specs.declared.key.Key.{Key}
use Rattle.lsdb.specs.Copies.{Database}
use Rattle.lsdb.specs.Headers.{Header, key_of}
use Rattle.lsdb.specs.Instances.{ListEntry}
use Rattle.lsdb.specs.Keys.{ByKey, KeySet}
use Rattle.packet.specs.declared.model.Description.{Description}
use Rattle.adjacency.specs.declared.state.NeighborState.{NeighborState}
use Rattle.adjacency.specs.declared.state.NeighborState.TheVariants.{Init, ExStart, Exchange}
use Rattle.adjacency.specs.declared.state.NeighborState.TheVariants.{Loading, Full}
use Rattle.adjacency.specs.Adjacencies.{after_hello, loading_done, has_passed, with_hello_heard}
use Rattle.adjacency.specs.Adjacencies.{mismatch_step, two_way_received, two_way_received_in}
use Rattle.adjacency.specs.Adjacencies.{requests_nothing, enter_exstart}
use Rattle.adjacency.specs.Contents.{Requests, Step, Updates, no_sends}
use Rattle.adjacency.specs.Descriptions.{Verdict, accept, act, after_description, max_age_copies}
use Rattle.adjacency.specs.Descriptions.{announced_more, changes_options, exchange_done}
use Rattle.adjacency.specs.Descriptions.{send_description}
use Rattle.adjacency.specs.Descriptions.{exchange_over, exchanging, expected_sequence, in_state}
use Rattle.adjacency.specs.Descriptions.{is_duplicate, is_kept, is_more_recent, is_over_for}
use Rattle.adjacency.specs.Descriptions.{process}
use Rattle.adjacency.specs.Descriptions.{knows_types, as_received, master_goes_on}
use Rattle.adjacency.specs.Descriptions.{negotiated_neighbor, negotiating, is_initial_description}
use Rattle.adjacency.specs.Descriptions.{repeat, same_flag, slave_replies, with_requests}
use Rattle.adjacency.specs.Descriptions.{without_old_description}
use Rattle.adjacency.specs.Neighbors.{Neighbor, is_exchange_or_loading, is_exchange_or_later}
use Rattle.adjacency.specs.Requests.{is_to_request, next_request, request_next, still_outstanding}
use Rattle.adjacency.specs.Requests.{without_request}
use Rattle.adjacency.specs.Retransmissions.{acknowledged_neighbor, after_acknowledgment}
use Rattle.adjacency.specs.Retransmissions.{describe_again, is_entry, next_retransmissions}
use Rattle.adjacency.specs.Retransmissions.{add_retransmission, remove_retransmission}
use Rattle.adjacency.specs.Retransmissions.{repeats_description, request_again, send_again}
use Rattle.adjacency.specs.Retransmissions.{update_again}

-- ---- choices

pub chosen : {A : Type 0} (P : A → Type 0) (b : Bool) (x y : A) → (b ≡ true → P x)
    → (b ≡ false → P y) → P (cond b x y)
chosen P true x y p q = p refl
chosen P false x y p q = q refl

-- ---- facts about a state and its lists: the Database summary list, the request list, the
-- retransmission list, and what is outstanding

abbrev pub Fact : Type 1
Fact = NeighborState → ByKey ListEntry → ByKey ListEntry → ByKey ListEntry → KeySet → Type 0

abbrev pub Of : Fact → Neighbor → Type 0
Of Q n = Q n.state n.summary n.requests n.retransmissions n.outstanding

-- it holds of empty lists, and each change of the lists keeps it: an exchange begins with
-- retransmissions of which `Begins` holds, and flooding adds entries of which `Adds` holds
pub record IsKeptWith (Begins : ByKey ListEntry → Type 0) (Adds : Key → ListEntry → Type 0)
    (Q : Fact) : Type 0 where
  pub begins : Q Init finite.empty finite.empty finite.empty set.empty
  pub restarts : Q ExStart finite.empty finite.empty finite.empty set.empty
  pub negotiates : (s r t s' t' : ByKey ListEntry) (o : KeySet) → Begins t' → Q ExStart s r t o
      → Q Exchange s' r t' o
  pub wants : (s r t : ByKey ListEntry) (o : KeySet) (key : Key) (x : ListEntry)
      → Q Exchange s r t o → Q Exchange s (finite.insert r key x) t o
  pub describes : (s r t s' : ByKey ListEntry) (o : KeySet) → Q Exchange s r t o
      → Q Exchange s' r t o
  pub loads : (s r t : ByKey ListEntry) (o : KeySet) → Q Exchange s r t o → Q Loading s r t o
  pub ends : (s r t : ByKey ListEntry) (o : KeySet) → Q Exchange s r t o
      → (finite.len r == 0) ≡ true → Q Full s r t o
  pub fills : (s r t : ByKey ListEntry) (o : KeySet) → Q Loading s r t o
      → (finite.len r == 0) ≡ true → Q Full s r t o
  pub asks : (state : NeighborState) (s r t : ByKey ListEntry) (o : KeySet)
      → is_exchange_or_loading state ≡ true → Q state s r t o
      → Q state s r t (set.from_list (take 680 (finite.keys r)))
  pub meets : (state : NeighborState) (s r t : ByKey ListEntry) (o : KeySet) (key : Key)
      → Q state s r t o → Q state s (finite.remove r key) t (set.remove o key)
  pub releases : (state : NeighborState) (s r t : ByKey ListEntry) (o : KeySet) (key : Key)
      → Q state s r t o → Q state s r (finite.remove t key) o
  pub has_retransmission : (state : NeighborState) (s r t : ByKey ListEntry) (o : KeySet)
      (key : Key) (x : ListEntry) → Adds key x → is_exchange_or_later state ≡ true → Q state s r t o
      → Q state s r (finite.insert (finite.remove t key) key x) o

-- whatever an exchange begins with, and whatever flooding adds
abbrev pub IsKept : Fact → Type 0
IsKept Q = IsKeptWith (λ t. Unit {0}) (λ key x. Unit {0}) Q

left_true : (a b : Bool) → (a && b) ≡ true → a ≡ true
left_true true b e = refl
left_true false b e = e

-- ---- which verdicts are possible in which state

module _ (V : Verdict → Type 0) (n : Neighbor) (d : Description) where
  negotiating_one_of : (own : ℕ) → V Verdict.Discarded → V Verdict.NegotiatedAsSlave
      → V Verdict.NegotiatedAsMaster → V (negotiating own n d)
  negotiating_one_of own discarded slave master =
      let leads : Bool = not d.init && not d.master && d.sequence == n.sequence && nat_lt n.router
      own in
      chosen V (is_initial_description d && nat_lt own n.router) Verdict.NegotiatedAsSlave
      (cond leads Verdict.NegotiatedAsMaster Verdict.Discarded) (λ e. slave)
      (λ e. chosen V leads Verdict.NegotiatedAsMaster Verdict.Discarded (λ e. master)
      (λ e. discarded))

  first_two : (a b : Bool) (v : Verdict) → V Verdict.Discarded → V Verdict.Repeated → V v
      → V (cond a Verdict.Discarded (cond b Verdict.Repeated v))
  first_two true b v discarded repeated rest = discarded
  first_two false true v discarded repeated rest = repeated
  first_two false false v discarded repeated rest = rest

  mismatch_or_accepted : V Verdict.Mismatch → V Verdict.Accepted → (a b c e : Bool)
      → V (cond a Verdict.Mismatch (cond b Verdict.Mismatch
      (cond c Verdict.Mismatch (cond e Verdict.Mismatch Verdict.Accepted))))
  mismatch_or_accepted mismatch accepted true b c e = mismatch
  mismatch_or_accepted mismatch accepted false true c e = mismatch
  mismatch_or_accepted mismatch accepted false false true e = mismatch
  mismatch_or_accepted mismatch accepted false false false true = mismatch
  mismatch_or_accepted mismatch accepted false false false false = accepted

  exchanging_one_of : V Verdict.Discarded → V Verdict.Repeated → V Verdict.Mismatch
      → V Verdict.Accepted → V (exchanging n d)
  exchanging_one_of discarded repeated mismatch accepted =
      first_two (is_duplicate n.received d && n.is_master) (is_duplicate n.received d) _ discarded
      repeated
      (mismatch_or_accepted mismatch accepted (same_flag d.master n.is_master) d.init
      (changes_options n.received d) (not (d.sequence == expected_sequence n)))

  over_one_of : V Verdict.Discarded → V Verdict.Repeated → V Verdict.Mismatch
      → V (exchange_over n d)
  over_one_of discarded repeated mismatch =
      first_two (is_duplicate n.received d && n.is_master)
      (is_duplicate n.received d && is_kept n.described) Verdict.Mismatch discarded repeated
      mismatch

module _ {Begins : ByKey ListEntry → Type 0} {Adds : Key → ListEntry → Type 0} (Q : Fact)
    (kept : IsKeptWith Begins Adds Q) where
  -- ---- attempts and Hellos

  pub mismatched_kept : (moment : ℕ) (n : Neighbor) → Of Q n
      → Of Q (mismatch_step moment n).neighbor
  mismatched_kept moment n h = chosen (λ (s : Step). Of Q s.neighbor) (is_exchange_or_later n.state)
      (enter_exstart moment n) (no_sends n) (λ e. kept.restarts) (λ e. h)

  named_in_kept : (s : NeighborState) (moment : ℕ) (n : Neighbor) → Of Q n
      → Of Q (two_way_received_in s moment n).neighbor
  named_in_kept Init moment n h = kept.restarts
  named_in_kept ExStart moment n h = h
  named_in_kept Exchange moment n h = h
  named_in_kept Loading moment n h = h
  named_in_kept Full moment n h = h

  pub named_kept : (moment : ℕ) (n : Neighbor) → Of Q n → Of Q (two_way_received moment n).neighbor
  named_kept moment n h = named_in_kept n.state moment n h

  -- ---- Database Descriptions

  repeat_of : (o : Option Description) (moment : ℕ) (n : Neighbor) → Of Q n
      → Of Q (repeat moment (record n { described = o })).neighbor
  repeat_of None moment n h = h
  repeat_of (Some d) moment n h = h

  repeat_kept : (moment : ℕ) (n : Neighbor) → Of Q n → Of Q (repeat moment n).neighbor
  repeat_kept moment n h = repeat_of n.described moment n h

  -- in Exchange
  abbrev in_exchange : Neighbor → Neighbor
  in_exchange n = record n { state = Exchange }

  done_kept : (moment : ℕ) (n : Neighbor) → Of Q (in_exchange n)
      → Of Q (exchange_done moment (in_exchange n))
  done_kept moment n h =
      chosen (λ (s : NeighborState). Q s n.summary n.requests n.retransmissions n.outstanding)
      (requests_nothing n) Full Loading
      (λ e. kept.ends n.summary n.requests n.retransmissions n.outstanding h e)
      (λ e. kept.loads n.summary n.requests n.retransmissions n.outstanding h)

  send_description_kept : (moment : ℕ) (n : Neighbor) → Of Q (in_exchange n)
      → Of Q (in_exchange (send_description moment (in_exchange n)).neighbor)
  send_description_kept moment n h = kept.describes n.summary n.requests n.retransmissions
      (send_description moment n).neighbor.summary n.outstanding h

  master_kept : (moment : ℕ) (d : Description) (n : Neighbor) → Of Q (in_exchange n)
      → Of Q (master_goes_on moment d (in_exchange n)).neighbor
  master_kept moment d n h =
      let next : Neighbor = record n { sequence = (n.sequence + 1) % 2 ^ 32 } in
      chosen (λ (s : Step). Of Q s.neighbor) (announced_more n.described || d.more)
      (send_description moment (in_exchange next)) (no_sends (exchange_done moment (in_exchange n)))
      (λ e. send_description_kept moment next h) (λ e. done_kept moment n h)

  slave_kept : (moment : ℕ) (d : Description) (n : Neighbor) → Of Q (in_exchange n)
      → Of Q (slave_replies moment d (in_exchange n)).neighbor
  slave_kept moment d n h =
      let next : Neighbor = record n { sequence = d.sequence } in
      let replied : Step = send_description moment (in_exchange next) in
      let still : Of Q (in_exchange replied.neighbor) = send_description_kept moment next h in
      chosen (λ (s : Step). Of Q s.neighbor) (announced_more replied.neighbor.described || d.more)
      replied (record replied { neighbor = exchange_done moment replied.neighbor })
      (λ e. still) (λ e. done_kept moment replied.neighbor still)

  requests_kept : (moment : ℕ) (db : Database) (hs : List Header) (n : Neighbor)
      → Of Q (in_exchange n) → Of Q (with_requests moment db hs (in_exchange n))
  requests_kept moment db [] n h = h
  requests_kept moment db (x ∷ hs) n h =
      let more : ByKey ListEntry = finite.insert n.requests (key_of x) (record {
        header = x;
        at = moment;
      }) in
      requests_kept moment db hs (record n {
        requests = cond (is_more_recent moment db x) more n.requests;
      })
      (chosen (λ (r : ByKey ListEntry). Q Exchange n.summary r n.retransmissions n.outstanding)
      (is_more_recent moment db x) more n.requests
      (λ e. kept.wants n.summary n.requests n.retransmissions n.outstanding (key_of x) (record {
        header = x;
        at = moment;
      }) h) (λ e. h))

  accept_kept : (moment : ℕ) (db : Database) (d : Description) (n : Neighbor) → Of Q (in_exchange n)
      → Of Q (accept moment db d (in_exchange n)).neighbor
  accept_kept moment db d n h =
      let m : Neighbor = with_requests moment db d.headers (record n {
        state = Exchange;
        received = Some (as_received d);
      }) in
      let asked : Of Q (in_exchange m) = requests_kept moment db d.headers (record n {
        received = Some (as_received d);
      }) h in
      chosen (λ (s : Step). Of Q s.neighbor) (knows_types d)
      (cond m.is_master (master_goes_on moment d m) (slave_replies moment d m))
      (mismatch_step moment (in_exchange n))
      (λ e. chosen (λ (s : Step). Of Q s.neighbor) m.is_master (master_goes_on moment d m)
      (slave_replies moment d m) (λ e. master_kept moment d m asked)
      (λ e. slave_kept moment d m asked))
      (λ e. mismatched_kept moment (in_exchange n) h)

  -- the step of a verdict, by the state in which it is possible
  module _ (moment : ℕ) (db : Database) (d : Description)
      (begun : Begins (max_age_copies moment db))
    where
      abbrev Keeps : Neighbor → Verdict → Type 0
      Keeps m v = Of Q (act v moment db d m).neighbor

      negotiated_kept : (is_master : Bool) (sequence : ℕ) (m : Neighbor) → Of Q (record m {
        state = ExStart;
      })
          → Of Q (accept moment db d (negotiated_neighbor is_master sequence moment db (record m {
            state = ExStart;
          }))).neighbor
      negotiated_kept is_master sequence m k =
          let t : Neighbor = negotiated_neighbor is_master sequence moment db (record m {
            state = ExStart;
          }) in
          accept_kept moment db d t (kept.negotiates m.summary m.requests m.retransmissions
          t.summary
          t.retransmissions m.outstanding begun k)

      judged_in : (s : NeighborState) (own : ℕ) (n : Neighbor) → Of Q (record n {
        state = s;
      }) → Of Q (process own moment db d (record n { state = s })).neighbor
      judged_in Init own n k = k
      judged_in ExStart own n k =
          negotiating_one_of (Keeps (record n {
            state = ExStart;
          })) (record n {
            state = ExStart;
          }) d own k (negotiated_kept false d.sequence n k) (negotiated_kept true n.sequence n k)
      judged_in Exchange own n k =
          let at : Neighbor = in_exchange n in
          exchanging_one_of (Keeps at) at d k (repeat_kept moment at k)
          (mismatched_kept moment at k)
          (accept_kept moment db d n k)
      judged_in Loading own n k =
          let at : Neighbor = record n { state = Loading } in
          over_one_of (Keeps at) at d k (repeat_kept moment at k) (mismatched_kept moment at k)
      judged_in Full own n k =
          let at : Neighbor = record n { state = Full } in
          over_one_of (Keeps at) at d k (repeat_kept moment at k) (mismatched_kept moment at k)

  judge_kept : (own moment : ℕ) (db : Database) (d : Description)
      → Begins (max_age_copies moment db)
      → (n : Neighbor) → Of Q n → Of Q (process own moment db d n).neighbor
  judge_kept own moment db d begun n h = judged_in moment db d begun n.state own n h

  pub hello_kept : (moment from : ℕ) (lists_us : Bool) (o : Option Neighbor)
      → Of Q (with_hello_heard from moment o) → Of Q (after_hello moment from lists_us o).neighbor
  hello_kept moment from true o h = named_kept moment (with_hello_heard from moment o) h
  hello_kept moment from false o h = kept.begins

  stated_kept : (s : NeighborState) (own moment : ℕ) (db : Database) (d : Description)
      → Begins (max_age_copies moment db) → (n : Neighbor) → Of Q n
      → Of Q (in_state s own moment db d n).neighbor
  stated_kept Init own moment db d begun n h =
      judge_kept own moment db d begun (two_way_received moment n).neighbor (named_kept moment n h)
  stated_kept ExStart own moment db d begun n h = judge_kept own moment db d begun n h
  stated_kept Exchange own moment db d begun n h = judge_kept own moment db d begun n h
  stated_kept Loading own moment db d begun n h = judge_kept own moment db d begun n h
  stated_kept Full own moment db d begun n h = judge_kept own moment db d begun n h

  pub description_kept : (own moment : ℕ) (db : Database) (d : Description)
      → Begins (max_age_copies moment db) → (n : Neighbor) → Of Q n
      → Of Q (after_description own moment db d n).neighbor
  description_kept own moment db d begun n h =
      chosen (λ (s : Step). Of Q s.neighbor) (nat_lt 8192 d.mtu) (no_sends n)
      (in_state n.state own moment db d n) (λ e. h)
      (λ e. stated_kept n.state own moment db d begun n h)

  -- ---- Loading and Link State Requests

  filled_in_kept : (s : NeighborState) (n : Neighbor) → Of Q (record n {
    state = s;
  }) → Of Q (loading_done (record n { state = s }))
  filled_in_kept Init n h = h
  filled_in_kept ExStart n h = h
  filled_in_kept Exchange n h = h
  filled_in_kept Loading n h =
      chosen (Of Q) (requests_nothing n) (record n {
        state = Full;
      }) (record n {
        state = Loading;
      }) (λ e. kept.fills n.summary n.requests n.retransmissions n.outstanding h e) (λ e. h)
  filled_in_kept Full n h = h

  pub filled_kept : (n : Neighbor) → Of Q n → Of Q (loading_done n)
  filled_kept n h = filled_in_kept n.state n h

  pub request_kept : (moment : ℕ) (n : Neighbor) → Of Q n → Of Q (request_next moment n).neighbor
  request_kept moment n h =
      chosen (λ (s : Step). Of Q s.neighbor) (is_to_request n)
      (record {
        neighbor = record n { outstanding = set.from_list (next_request n); requested_at = moment };
        sends = Requests (next_request n) ∷ [];
      }) (no_sends n)
      (λ e. kept.asks n.state n.summary n.requests n.retransmissions n.outstanding
      (left_true (is_exchange_or_loading n.state) _ (left_true _ _ e)) h) (λ e. h)

  pub met_kept : (key : Key) (n : Neighbor) → Of Q n → Of Q (without_request key n)
  met_kept key n h = kept.meets n.state n.summary n.requests n.retransmissions n.outstanding key h

  -- ---- retransmissions

  pub released_kept : (key : Key) (n : Neighbor) → Of Q n → Of Q (remove_retransmission key n)
  released_kept key n h = kept.releases n.state n.summary n.requests n.retransmissions n.outstanding
      key h

  pub owed_kept : (moment : ℕ) (x : Header) (n : Neighbor) → Adds (key_of x) (record {
    header = x;
    at = moment;
  }) → is_exchange_or_later n.state ≡ true → Of Q n
      → Of Q (add_retransmission moment x n)
  owed_kept moment x n adds part h =
      kept.has_retransmission n.state n.summary n.requests n.retransmissions n.outstanding
      (key_of x) (record { header = x; at = moment }) adds part h

  pub acknowledgment_kept : (moment : ℕ) (hs : List Header) (n : Neighbor) → Of Q n
      → Of Q (after_acknowledgment moment hs n)
  acknowledgment_kept moment [] n h = h
  acknowledgment_kept moment (x ∷ hs) n h =
      acknowledgment_kept moment hs (acknowledged_neighbor moment n x)
      (chosen (Of Q) (is_entry moment x (finite.get n.retransmissions (key_of x)))
      (remove_retransmission (key_of x) n) n (λ e. released_kept (key_of x) n h) (λ e. h))

  pub again_kept : (moment interval : ℕ) (db : Database) (n : Neighbor) → Of Q n
      → Of Q (send_again moment interval db n).neighbor
  again_kept moment interval db n h =
      update_kept asked (request_again_kept described (describe_again_kept n h))
    where
      described : Neighbor
      described = (describe_again moment interval n).neighbor

      asked : Neighbor
      asked = (request_again moment interval (describe_again moment interval n).neighbor).neighbor

      describe_again_kept : (m : Neighbor) → Of Q m
          → Of Q (describe_again moment interval m).neighbor
      describe_again_kept m k =
          chosen (λ (s : Step). Of Q s.neighbor)
          (repeats_description m.state m.is_master && has_passed m.described_at interval moment)
          (repeat moment m) (no_sends m) (λ e. repeat_kept moment m k) (λ e. k)

      request_again_kept : (m : Neighbor) → Of Q m → Of Q (request_again moment interval m).neighbor
      request_again_kept m k =
          chosen (λ (s : Step). Of Q s.neighbor)
          (not (set.len m.outstanding == 0) && has_passed m.requested_at interval moment)
          (record {
            neighbor = record m { requested_at = moment };
            sends = Requests (still_outstanding m) ∷ [];
          }) (no_sends m) (λ e. k) (λ e. k)

      update_kept : (m : Neighbor) → Of Q m → Of Q (update_again moment interval db m).neighbor
      update_kept m k =
          chosen (λ (s : Step). Of Q s.neighbor)
          (not (finite.len m.retransmissions == 0) && has_passed m.retransmitted_at interval
          moment)
          (record {
            neighbor = record m { retransmitted_at = moment };
            sends = map Updates (next_retransmissions moment db m);
          }) (no_sends m) (λ e. k) (λ e. k)

  -- ---- timers that have expired

  pub old_description_kept : (moment dead : ℕ) (n : Neighbor) → Of Q n
      → Of Q (without_old_description moment dead n)
  old_description_kept moment dead n h =
      chosen (Of Q) (is_over_for moment dead n.exchanged) (record n {
        described = None;
      }) n (λ e. h) (λ e. h)
