-- A neighbor after edits of its lists.
use Rattle.std.proofs.Common.{◌≡◌, ℕ, ◌==◌, Bool, true, false, cond, not, ◌&&◌, refl, sym, ap, ◌∙◌}
use Rattle.std.specs.Prelude.{Option, None, Some, is_some, map as each}
use Rattle.lsdb.proofs.Empty.{no_entries}
use mathlib.Core.Bool.{false≢true}
use Rattle.adjacency.specs.Kept.{Kept}
use Rattle.adjacency.specs.Contents.{no_sends}
use Rattle.adjacency.specs.Adjacencies.{two_way_received_in, after_hello, initial_description}
use Rattle.adjacency.specs.Adjacencies.{enter_exstart}
use Rattle.adjacency.specs.declared.state.NeighborState.{NeighborState}
use Rattle.adjacency.specs.declared.state.NeighborState.TheVariants.{Init, ExStart, Exchange}
use Rattle.adjacency.specs.declared.state.NeighborState.TheVariants.{Loading, Full}
use Rattle.std.specs.Ordering.{eq_by_cmp}
use Rattle.std.specs.FinMap as finite
use Rattle.std.specs.FinSet as set
use Rattle.words.specs.declared.key.Key.{Key}
use Rattle.lsdb.specs.Headers.{Header, Lsa, key_of, lsa_key}
use Rattle.lsdb.specs.Instances.{ListEntry}
use Rattle.lsdb.specs.Keys.{ByKey, KeySet, key_cmp}
use Rattle.lsdb.proofs.Keys.{keys_exact, keys_total}
use Rattle.adjacency.specs.Neighbors.{Neighbor, fresh, is_exchange_or_loading, is_exchange_or_later}
use Rattle.adjacency.specs.Requests.{without_request}
use Rattle.adjacency.specs.Retransmissions.{add_retransmission, remove_retransmission}
use Rattle.adjacency.specs.Floods.{satisfies_request, request_of, without_satisfied_request}
use Rattle.packet.specs.declared.model.Description.{Description}
use Rattle.adjacency.specs.declared.standing.Standing.{Standing}
use Rattle.adjacency.specs.Views.{restarted, restarts, fresh_standing, keys_of, neighbor_of}
use Rattle.adjacency.specs.Views.{started_standing}

pub contains_key_of : {X : Type 0} (m : ByKey X) (q : Key)
    → set.contains (keys_of m) q ≡ is_some (finite.get m q)
contains_key_of m q = set.contains-from_list keys_total (finite.keys m) q
    ∙ sym (finite.contains_key-keys m q)

gone_or : {X : Type 0} (b : Bool) (o : Option X) → is_some (cond b None o) ≡ (not b && is_some o)
gone_or true o = refl
gone_or false o = refl

-- a set that is kept as a map, without a key
pub keys_remove : {X : Type 0} (m : ByKey X) (k : Key)
    → keys_of (finite.remove m k) ≡ set.remove (keys_of m) k
keys_remove m k = set.same_set keys_total keys_exact (keys_of (finite.remove m k))
    (set.remove (keys_of m) k) (λ q.
    contains_key_of (finite.remove m k) q ∙ ap is_some (finite.get-remove keys_total m k q)
    ∙ gone_or (eq_by_cmp key_cmp q k) (finite.get m q)
    ∙ ap (λ b. not (eq_by_cmp key_cmp q k) && b) (sym (contains_key_of m q))
    ∙ sym (set.contains-remove keys_total (keys_of m) k q))

module _ {X : Type 0} (s : Standing) (des : Option Description) (sum req : ByKey ListEntry)
    (out : ByKey X) (retr : ByKey ListEntry) where
  pub standing_part : is_exchange_or_later s.state
      ≡ is_exchange_or_later (neighbor_of s des sum req out retr).state
  unfolding neighbor_of
  standing_part = refl

  pub releases : (k : Key) → neighbor_of s des sum req out (finite.remove retr k)
      ≡ remove_retransmission k (neighbor_of s des sum req out retr)
  unfolding neighbor_of
  releases k = refl

  pub request_removed : (k : Key) → neighbor_of s des sum (finite.remove req k)
      (finite.remove out k) retr
      ≡ without_request k (neighbor_of s des sum req out retr)
  unfolding neighbor_of
  request_removed k = ap (λ (o : KeySet). record
      (neighbor_of s des sum (finite.remove req k) out retr)
      { outstanding = o }) (keys_remove out k)

  pub has_retransmission : (moment : ℕ) (h : Header)
      → neighbor_of (record s {
        retransmitted_at = cond (finite.len (finite.remove retr (key_of h)) == 0) moment
            s.retransmitted_at;
      }) des sum req out (finite.insert (finite.remove retr (key_of h)) (key_of h) (record {
        header = h;
        at = moment;
      }))
      ≡ add_retransmission moment h (neighbor_of s des sum req out retr)
  unfolding neighbor_of
  has_retransmission moment h = refl

  pub requests_nothing_now : (lsa : Lsa) → is_exchange_or_loading s.state ≡ false
      → request_of (neighbor_of s des sum req out retr) lsa ≡ None
  unfolding neighbor_of
  requests_nothing_now lsa is = ap (λ b. cond b (finite.get req (lsa_key lsa)) None) is

  pub requests_now : (lsa : Lsa) → is_exchange_or_loading s.state ≡ true
      → request_of (neighbor_of s des sum req out retr) lsa ≡ finite.get req (lsa_key lsa)
  unfolding neighbor_of
  requests_now lsa is = ap (λ b. cond b (finite.get req (lsa_key lsa)) None) is

  pub lists_now : (k : Key) → finite.get retr k
      ≡ finite.get (neighbor_of s des sum req out retr).retransmissions k
  unfolding neighbor_of
  lists_now k = refl

  pub router_now : s.router ≡ (neighbor_of s des sum req out retr).router
  unfolding neighbor_of
  router_now = refl

  pub state_now : s.state ≡ (neighbor_of s des sum req out retr).state
  unfolding neighbor_of
  state_now = refl

  pub start_now : s.dd_sequence_start ≡ (neighbor_of s des sum req out retr).dd_sequence_start
  unfolding neighbor_of
  start_now = refl

  pub last_heard_now : s.last_heard ≡ (neighbor_of s des sum req out retr).last_heard
  unfolding neighbor_of
  last_heard_now = refl

  pub hears : (moment : ℕ) → neighbor_of (record s {
    last_heard = moment;
  }) des sum req out retr ≡ record (neighbor_of s des sum req out retr) { last_heard = moment }
  unfolding neighbor_of
  hears moment = refl

-- the definition by the test
pub met : (moment : ℕ) (lsa : Lsa) (n : Neighbor) (b : Bool)
    → b ≡ satisfies_request moment lsa (request_of n lsa)
    → cond b (without_request (lsa_key lsa) n) n ≡ without_satisfied_request moment lsa n
met moment lsa n b is = ap (λ c. cond c (without_request (lsa_key lsa) n) n) is

-- ---- starting over

pub no_keys : (X : Type 0) → keys_of (finite.empty {X = X} {R = key_cmp}) ≡ set.empty
no_keys X = ap (λ es. set.from_list {R = key_cmp} (each (λ (e : Key × X). e.0) es)) no_entries

pub neighbor_at : {X : Type 0} {s s' : Standing} {d d' : Option Description}
    {u u' q q' r r' : ByKey ListEntry} {o o' : ByKey X} → s ≡ s' → d ≡ d' → u ≡ u' → q ≡ q' → o ≡ o'
    → r ≡ r' → neighbor_of s d u q o r ≡ neighbor_of s' d' u' q' o' r'
neighbor_at s d u q o r i = neighbor_of (s i) (d i) (u i) (q i) (o i) (r i)

pub freshly : (router : ℕ) (dd_sequence_start : Option ℕ) (last_heard : ℕ)
    → neighbor_of {X = Unit {0}} (fresh_standing router dd_sequence_start last_heard) None
    finite.empty finite.empty finite.empty finite.empty
    ≡ fresh router dd_sequence_start last_heard
unfolding neighbor_of
freshly router dd_sequence_start last_heard =
    λ i. record (fresh router dd_sequence_start last_heard) { outstanding = no_keys (Unit {0}) i }

pub starts : (moment router : ℕ) (dd_sequence_start : Option ℕ) (last_heard dd_sequence : ℕ)
    → dd_sequence ≡ (enter_exstart moment
    (fresh router dd_sequence_start last_heard)).neighbor.sequence
    → neighbor_of {X = Unit {0}} (started_standing moment router dd_sequence last_heard)
    (Some (initial_description dd_sequence)) finite.empty finite.empty finite.empty finite.empty
    ≡ (enter_exstart moment (fresh router dd_sequence_start last_heard)).neighbor
unfolding neighbor_of
starts moment router dd_sequence_start last_heard dd_sequence is =
    λ i. record (fresh router (Some (is i)) last_heard) {
      state = ExStart;
      is_master = true;
      sequence = is i;
      described = Some (initial_description (is i));
      described_at = moment;
      outstanding = no_keys (Unit {0}) i;
    }

pub kept_is : {A : Type 0} {p q s t : A} → p ≡ q → s ≡ t → ◌≡◌ {A = Kept A} (record {
  present = p;
  committed = s;
}) (record { present = q; committed = t })
kept_is a b i = record { present = a i; committed = b i }

-- ---- a Hello

pub restarted_if_listed : (moment router : ℕ) (start : Option ℕ) (lists_us : Bool) → lists_us ≡ true
    → enter_exstart moment (fresh router start moment) ≡ restarted moment router start lists_us
unfolding restarted
restarted_if_listed moment router start lists_us is =
    ap (λ b. after_hello moment router b (Some (fresh router start moment))) (sym is)

pub restarted_if_not_listed : (moment router : ℕ) (start : Option ℕ) (lists_us : Bool)
    → lists_us ≡ false → no_sends (fresh router start moment)
    ≡ restarted moment router start lists_us
unfolding restarted
restarted_if_not_listed moment router start lists_us is =
    ap (λ b. after_hello moment router b (Some (fresh router start moment))) (sym is)

pub none_restarts : (moment router : ℕ) (lists_us : Bool)
    → restarted moment router None lists_us ≡ after_hello moment router lists_us None
unfolding restarted
none_restarts moment router true = refl
none_restarts moment router false = refl

starts_in : (moment : ℕ) (n : Neighbor) (state : NeighborState) → restarts state true ≡ true
    → enter_exstart moment (fresh n.router n.dd_sequence_start moment)
    ≡ two_way_received_in state moment (record n { last_heard = moment })
starts_in moment n Init is = refl
starts_in moment n ExStart is = absurd (false≢true is)
starts_in moment n Exchange is = absurd (false≢true is)
starts_in moment n Loading is = absurd (false≢true is)
starts_in moment n Full is = absurd (false≢true is)

pub some_restarts : (moment from : ℕ) (n : Neighbor) (lists_us : Bool)
    → restarts n.state lists_us ≡ true
    → restarted moment n.router n.dd_sequence_start lists_us
    ≡ after_hello moment from lists_us (Some n)
unfolding restarted
some_restarts moment from n true is = starts_in moment n n.state is
some_restarts moment from n false is = refl

rests_in : (moment : ℕ) (n : Neighbor) (state : NeighborState) → restarts state true ≡ false
    → two_way_received_in state moment n ≡ no_sends n
rests_in moment n Init is = absurd (false≢true (sym is))
rests_in moment n ExStart is = refl
rests_in moment n Exchange is = refl
rests_in moment n Loading is = refl
rests_in moment n Full is = refl

goes_on : (state : NeighborState) → restarts state false ≡ true
goes_on Init = refl
goes_on ExStart = refl
goes_on Exchange = refl
goes_on Loading = refl
goes_on Full = refl

pub some_rests : (moment from : ℕ) (n : Neighbor) (lists_us : Bool)
    → restarts n.state lists_us ≡ false
    → no_sends (record n { last_heard = moment }) ≡ after_hello moment from lists_us (Some n)
some_rests moment from n true is = sym (rests_in moment (record n {
  last_heard = moment;
}) n.state is)
some_rests moment from n false is = absurd (false≢true (sym is ∙ goes_on n.state))
