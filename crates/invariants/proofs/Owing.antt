-- One entry of a neighbor's retransmission list after each step of the neighbor: it stays, unless
-- the adjacency is given up, the LSA is flooded, or the entry is acknowledged.
use Rattle.std.proofs.Common.{◌≡◌, ℕ, ◌%◌, ◌^◌, ◌+◌, Bool, true, false, cond, not, ◌&&◌, ◌||◌, ◌⊎◌}
use Rattle.std.proofs.Common.{inl, inr, List, [], ◌∷◌, map, Option, None, Some, is_some, refl, sym}
use Rattle.std.proofs.Common.{ap, subst, ◌∙◌}
use Rattle.std.specs.Prelude.{◌==◌, nat_lt}
use Rattle.std.specs.FinMap as finite
use Rattle.std.specs.FinSet as set
use Rattle.std.specs.List.{Contains, fold}
use Rattle.words.specs.declared.key.Key.{Key}
use Rattle.lsdb.specs.Copies.{Database}
use Rattle.lsdb.specs.Headers.{Header, Lsa, key_of, lsa_key}
use Rattle.lsdb.specs.Instances.{ListEntry}
use Rattle.lsdb.specs.Keys.{ByKey, same_key}
use Rattle.lsdb.proofs.Keys.{keys_total}
use Rattle.packet.specs.declared.model.Description.{Description}
use Rattle.adjacency.specs.declared.state.NeighborState.{NeighborState}
use Rattle.adjacency.specs.declared.state.NeighborState.TheVariants.{Init, ExStart, Exchange}
use Rattle.adjacency.specs.declared.state.NeighborState.TheVariants.{Loading, Full}
use Rattle.adjacency.specs.Adjacencies.{after_hello, enter_exstart, has_passed, loading_done}
use Rattle.adjacency.specs.Adjacencies.{loading_done_in, mismatch_step, requests_nothing}
use Rattle.adjacency.specs.Adjacencies.{two_way_received_in, with_hello_heard}
use Rattle.adjacency.specs.Contents.{Requests, Step, Updates, no_sends}
use Rattle.adjacency.specs.Descriptions.{Verdict, accept, act, after_description, announced_more}
use Rattle.adjacency.specs.Descriptions.{as_received, changes_options, exchange_done}
use Rattle.adjacency.specs.Descriptions.{send_description}
use Rattle.adjacency.specs.Descriptions.{exchange_over, expected_sequence, in_state, is_duplicate}
use Rattle.adjacency.specs.Descriptions.{is_kept, is_more_recent, is_over_for, knows_types}
use Rattle.adjacency.specs.Descriptions.{master_goes_on, repeat, same_flag, slave_replies}
use Rattle.adjacency.specs.Descriptions.{with_request, with_requests, without_old_description}
use Rattle.adjacency.specs.Floods.{flooded_in_exchange, flooding, satisfies_request}
use Rattle.adjacency.specs.Floods.{exceeds_request, request_of}
use Rattle.adjacency.specs.Floods.{without_satisfied_request}
use Rattle.adjacency.specs.Neighbors.{Neighbor, is_exchange_or_loading, is_exchange_or_later}
use Rattle.adjacency.specs.Requests.{is_to_request, next_request, request_next, requested_entry}
use Rattle.adjacency.specs.Requests.{still_outstanding, without_request}
use Rattle.adjacency.specs.Retransmissions.{acknowledged_neighbor, add_retransmission}
use Rattle.adjacency.specs.Retransmissions.{after_acknowledgment, describe_again, is_entry}
use Rattle.adjacency.specs.Retransmissions.{next_retransmissions, remove_retransmission}
use Rattle.adjacency.specs.Retransmissions.{repeats_description, request_again, send_again}
use Rattle.adjacency.specs.Retransmissions.{update_again}
use Rattle.adjacency.proofs.Kept.{chosen}
use Rattle.received.specs.Holds.{Holds}
use Rattle.event_rules.specs.InstanceIdentities.{InstanceIdentity, identity_of_header}
use Rattle.invariants.specs.TakenOff.{listed_instance, owed_instance}
use Rattle.invariants.proofs.Flooding.{flooding_so}
use Rattle.invariants.proofs.Limits.{tied_key}
use Rattle.invariants.proofs.Lists.{later_is}
use Rattle.invariants.proofs.Taken.{named_first, same_name}

-- ---- one key of a map

pub removed_other : {X : Type 0} (m : ByKey X) (k key : Key) → same_key key k ≡ false
    → finite.get (finite.remove m k) key ≡ finite.get m key
removed_other m k key other = finite.get-remove keys_total m k key
    ∙ ap (λ b. cond b None (finite.get m key)) other

pub put_other : {X : Type 0} (m : ByKey X) (k key : Key) (x : X) → same_key key k ≡ false
    → finite.get (finite.insert m k x) key ≡ finite.get m key
put_other m k key x other = finite.get-insert keys_total m k x key
    ∙ ap (λ b. cond b (Some x) (finite.get m key)) other

pub put_same : {X : Type 0} (m : ByKey X) (k key : Key) (x : X) → same_key key k ≡ true
    → finite.get (finite.insert m k x) key ≡ Some x
put_same m k key x same = finite.get-insert keys_total m k x key
    ∙ ap (λ b. cond b (Some x) (finite.get m key)) same

left_of : {X : Type 0} (b : Bool) (o : Option X) → is_some (cond b None o) ≡ true → is_some o ≡ true
left_of true o e = absurd cc
left_of false o e = e

left_there : {X : Type 0} (m : ByKey X) (k key : Key)
    → finite.contains_key (finite.remove m k) key ≡ true → finite.contains_key m key ≡ true
left_there m k key e = left_of (same_key key k) (finite.get m key)
    (ap is_some (sym (finite.get-remove keys_total m k key)) ∙ e)

-- ---- the entry

module _ (key : Key) (name : InstanceIdentity) (Asked : Type 0) where
  -- the adjacency was given up; or the instance is still on the retransmission list and, if its key
  -- is on the request list now, counts as requested
  abbrev pub Owing : Neighbor → Type 0
  Owing m = (is_exchange_or_later m.state ≡ false)
      ⊎ ((owed_instance m key ≡ Some name) × (finite.contains_key m.requests key ≡ true → Asked))

  abbrev OfStep : Step → Type 0
  OfStep s = Owing s.neighbor

  met : (k : Key) (m : Neighbor) → Owing m → Owing (without_request k m)
  met k m (inl e) = inl e
  met k m (inr h) = inr (h.0, λ e. h.1 (left_there m.requests k key e))

  met_where : (moment : ℕ) (lsa : Lsa) (m : Neighbor) → Owing m
      → Owing (without_satisfied_request moment lsa m)
  met_where moment lsa m h = chosen Owing (satisfies_request moment lsa (request_of m lsa))
      (without_request (lsa_key lsa) m) m (λ e. met (lsa_key lsa) m h) (λ e. h)

  -- ---- flooding

  added_other : (moment : ℕ) (x : Header) (m : Neighbor) → same_key key (key_of x) ≡ false → Owing m
      → Owing (add_retransmission moment x m)
  added_other moment x m other (inl e) = inl e
  added_other moment x m other (inr h) =
      let entry : ListEntry = record { header = x; at = moment } in
      inr (
        ap (listed_instance key) (put_other (finite.remove m.retransmissions (key_of x))
            (key_of x) key entry other ∙ removed_other m.retransmissions (key_of x) key other)
            ∙ h.0,
        h.1,
      )

  pub released_other : (k : Key) (m : Neighbor) → same_key key k ≡ false → Owing m
      → Owing (remove_retransmission k m)
  released_other k m other (inl e) = inl e
  released_other k m other (inr h) =
      inr (ap (listed_instance key) (removed_other m.retransmissions k key other) ∙ h.0, h.1)

  -- for another key
  pub flooded_other : (moment : ℕ) (from : Bool) (lsa : Lsa) (m : Neighbor)
      → same_key key (lsa_key lsa) ≡ false → Owing m → Owing (flooding moment from lsa m).neighbor
  flooded_other moment from lsa m other h =
      let w : Neighbor = without_satisfied_request moment lsa m in
      flooding_so OfStep moment m from lsa
      (added_other moment lsa.header w other (met_where moment lsa m h))
      (released_other (lsa_key lsa) w other (met_where moment lsa m h)) h

  is_requested : (moment : ℕ) (lsa : Lsa) (m : Neighbor)
      → exceeds_request moment lsa (request_of m lsa) ≡ false
      → finite.contains_key m.requests (lsa_key lsa) ≡ true
  is_requested moment lsa m e = of_choice (is_exchange_or_loading m.state)
      (requested_entry m (lsa_key lsa)) (of_passes (request_of m lsa) e)
    where
      of_passes : (o : Option ListEntry) → exceeds_request moment lsa o ≡ false → is_some o ≡ true
      of_passes None p = absurd cc
      of_passes (Some x) p = refl

      of_choice : (b : Bool) (o : Option ListEntry) → is_some (cond b o None) ≡ true
          → is_some o ≡ true
      of_choice true o p = p
      of_choice false o p = absurd cc

  first_false : (b : Bool) → (not false && b) ≡ false → b ≡ false
  first_false b e = e

  -- for this key and the same instance, which wasn't received from a neighbor: it stays on the
  -- list, unless the LSA is requested of the neighbor
  pub flooded_same : (moment : ℕ) (lsa : Lsa) (m : Neighbor) → same_key key (lsa_key lsa) ≡ true
      → record { key = key; sequence = lsa.header.sequence; checksum = lsa.header.checksum } ≡ name
      → Owing m → Owing (flooding moment false lsa m).neighbor ⊎ Asked
  flooded_same moment lsa m same is (inl before) =
      chosen (λ (s : Step). Owing s.neighbor ⊎ Asked) (is_exchange_or_later m.state)
      (flooded_in_exchange moment false lsa m) (no_sends m)
      (λ part. let no : true ≡ false = sym part ∙ before in absurd cc) (λ e. inl (inl before))
  flooded_same moment lsa m same is (inr h) =
      let w : Neighbor = without_satisfied_request moment lsa m in
      let entry : ListEntry = record { header = lsa.header; at = moment } in
      let got : Step = record {
        neighbor = add_retransmission moment lsa.header w;
        sends = Updates lsa ∷ [];
      } in
      let not_got : Step = no_sends (remove_retransmission (lsa_key lsa) w) in
      let asks : finite.contains_key w.requests key ≡ true → Asked =
      chosen (λ (n : Neighbor). finite.contains_key n.requests key ≡ true → Asked)
      (satisfies_request moment lsa (request_of m lsa)) (without_request (lsa_key lsa) m) m
      (λ e c. h.1 (left_there m.requests (lsa_key lsa) key c)) (λ e c. h.1 c) in
      chosen (λ (s : Step). Owing s.neighbor ⊎ Asked) (is_exchange_or_later m.state)
      (flooded_in_exchange moment false lsa m) (no_sends m)
      (λ part. chosen (λ (s : Step). Owing s.neighbor ⊎ Asked)
      (not false && exceeds_request moment lsa (request_of m lsa)) got not_got
      (λ e. inl (inr (
        ap (listed_instance key) (put_same (finite.remove w.retransmissions (lsa_key lsa))
            (lsa_key lsa) key entry same) ∙ ap (λ (x : InstanceIdentity). Some x) is,
        asks,
      )))
      (λ e. inr (h.1 (subst (λ (k : Key). finite.contains_key m.requests k ≡ true)
      (sym (tied_key key (lsa_key lsa) same))
      (is_requested moment lsa m (first_false (exceeds_request moment lsa (request_of m lsa))
      e))))))
      (λ before. inl (inl before))

  -- ---- attempts and Hellos

  pub mismatched_owing : (moment : ℕ) (m : Neighbor) → Owing m
      → Owing (mismatch_step moment m).neighbor
  mismatched_owing moment m h = chosen OfStep (is_exchange_or_later m.state)
      (enter_exstart moment m) (no_sends m) (λ e. inl refl) (λ e. h)

  two_way_owing : (s : NeighborState) (moment : ℕ) (m : Neighbor) → Owing m
      → Owing (two_way_received_in s moment m).neighbor
  two_way_owing Init moment m h = inl refl
  two_way_owing ExStart moment m h = h
  two_way_owing Exchange moment m h = h
  two_way_owing Loading moment m h = h
  two_way_owing Full moment m h = h

  heard_owing : (from moment : ℕ) (o : Option Neighbor) → Holds Owing o
      → Owing (with_hello_heard from moment o)
  heard_owing from moment None h = inl refl
  heard_owing from moment (Some m) h = h

  pub hello_owing : (moment from : ℕ) (names : Bool) (o : Option Neighbor) → Holds Owing o
      → Owing (after_hello moment from names o).neighbor
  hello_owing moment from true o h =
      let m : Neighbor = with_hello_heard from moment o in
      two_way_owing m.state moment m (heard_owing from moment o h)
  hello_owing moment from false o h = inl refl

  -- ---- Database Descriptions, from Exchange on

  abbrev Has : Neighbor → Type 0
  Has m = (owed_instance m key ≡ Some name) × (finite.contains_key m.requests key ≡ true → Asked)

  put_there : (r : ByKey ListEntry) (k : Key) (x : ListEntry)
      → finite.contains_key (finite.insert r k x) key ≡ true
      → (finite.contains_key r key ≡ true) ⊎ (k ≡ key)
  put_there r k x c = by_key (same_key key k) refl
      (ap is_some (sym (finite.get-insert keys_total r k x key)) ∙ c)
    where
      by_key : (b : Bool) → same_key key k ≡ b → is_some (cond b (Some x) (finite.get r key)) ≡ true
          → (finite.contains_key r key ≡ true) ⊎ (k ≡ key)
      by_key true same e = inr (sym (tied_key key k same))
      by_key false other e = inl e

  requests_grow : (moment : ℕ) (db : Database) (hs : List Header) (r : ByKey ListEntry)
      → finite.contains_key (fold (with_request moment db) r hs) key ≡ true
      → (finite.contains_key r key ≡ true) ⊎ Contains (map key_of hs) key
  requests_grow moment db [] r c = inl c
  requests_grow moment db (x ∷ hs) r c =
      by_rest (requests_grow moment db hs (with_request moment db r x) c)
    where
      first : (finite.contains_key r key ≡ true) ⊎ (key_of x ≡ key)
          → (finite.contains_key r key ≡ true) ⊎ Contains (map key_of (x ∷ hs)) key
      first (inl k) = inl k
      first (inr is) = inr (named_first (key_of x) (map key_of hs) key is)

      by_rest : (finite.contains_key (with_request moment db r x) key ≡ true)
          ⊎ Contains (map key_of hs) key → (finite.contains_key r key ≡ true)
          ⊎ Contains (map key_of (x ∷ hs)) key
      by_rest (inl k) =
          first (chosen (λ (q : ByKey ListEntry). finite.contains_key q key ≡ true
          → (finite.contains_key r key ≡ true) ⊎ (key_of x ≡ key)) (is_more_recent moment db x)
          (finite.insert r (key_of x) (record { header = x; at = moment })) r
          (λ e c. put_there r (key_of x) (record { header = x; at = moment }) c) (λ e c. inl c) k)
      by_rest (inr k) = inr (later_is (key_of x) (map key_of hs) key k)

  repeat_of : (o : Option Description) (moment : ℕ) (m : Neighbor) → Has m
      → Owing (repeat moment (record m { described = o })).neighbor
  repeat_of None moment m h = inr h
  repeat_of (Some d) moment m h = inr h

  repeat_owing : (moment : ℕ) (m : Neighbor) → Has m → Owing (repeat moment m).neighbor
  repeat_owing moment m h = repeat_of m.described moment m h

  master_owing : (moment : ℕ) (d : Description) (m : Neighbor) → Has m
      → Owing (master_goes_on moment d m).neighbor
  master_owing moment d m h =
      chosen OfStep (announced_more m.described || d.more) (send_description moment (record m {
        sequence = (m.sequence + 1) % 2 ^ 32;
      })) (no_sends (exchange_done moment m)) (λ c. inr h) (λ c. inr h)

  slave_owing : (moment : ℕ) (d : Description) (m : Neighbor) → Has m
      → Owing (slave_replies moment d m).neighbor
  slave_owing moment d m h =
      let replied : Step = send_description moment (record m { sequence = d.sequence }) in
      chosen OfStep (announced_more replied.neighbor.described || d.more) replied (record replied {
        neighbor = exchange_done moment replied.neighbor;
      }) (λ c. inr h) (λ c. inr h)

  module _ (d : Description) (asks : Contains (map key_of d.headers) key → Asked) where
    accept_owing : (moment : ℕ) (db : Database) (m : Neighbor) → Has m
        → Owing (accept moment db d m).neighbor
    accept_owing moment db m h =
        let w : Neighbor = with_requests moment db d.headers (record m {
          received = Some (as_received d);
        }) in
        let more : Has w = (h.0, λ c. by_request (requests_grow moment db d.headers m.requests c))
        in
        chosen OfStep (knows_types d) (cond w.is_master (master_goes_on moment d w)
        (slave_replies moment d w)) (mismatch_step moment m)
        (λ c. chosen OfStep w.is_master (master_goes_on moment d w) (slave_replies moment d w)
        (λ c. master_owing moment d w more) (λ c. slave_owing moment d w more))
        (λ c. mismatched_owing moment m (inr h))
      where
        by_request : (finite.contains_key m.requests key ≡ true)
            ⊎ Contains (map key_of d.headers) key → Asked
        by_request (inl c) = h.1 c
        by_request (inr c) = asks c

    first_two : (V : Verdict → Type 0) (a b : Bool) (v : Verdict) → V Verdict.Discarded
        → V Verdict.Repeated → V v → V (cond a Verdict.Discarded (cond b Verdict.Repeated v))
    first_two V true b v discarded repeated rest = discarded
    first_two V false true v discarded repeated rest = repeated
    first_two V false false v discarded repeated rest = rest

    mismatch_or_accepted : (V : Verdict → Type 0) → V Verdict.Mismatch → V Verdict.Accepted
        → (a b c e : Bool) → V (cond a Verdict.Mismatch
        (cond b Verdict.Mismatch (cond c Verdict.Mismatch
        (cond e Verdict.Mismatch Verdict.Accepted))))
    mismatch_or_accepted V mismatch accepted true b c e = mismatch
    mismatch_or_accepted V mismatch accepted false true c e = mismatch
    mismatch_or_accepted V mismatch accepted false false true e = mismatch
    mismatch_or_accepted V mismatch accepted false false false true = mismatch
    mismatch_or_accepted V mismatch accepted false false false false = accepted

    module _ (own moment : ℕ) (db : Database) where
      abbrev Does : Neighbor → Verdict → Type 0
      Does m v = Owing (act v moment db d m).neighbor

      over_owing : (m : Neighbor) → Has m → Owing (act (exchange_over m d) moment db d m).neighbor
      over_owing m h =
          first_two (Does m) (is_duplicate m.received d && m.is_master)
          (is_duplicate m.received d && is_kept m.described) Verdict.Mismatch
          (inr h) (repeat_owing moment m h) (mismatched_owing moment m (inr h))

      stated_owing : (s : NeighborState) (m : Neighbor) → is_exchange_or_later s ≡ true → Has m
          → Owing (in_state s own moment db d (record m { state = s })).neighbor
      stated_owing Init m part h = absurd cc
      stated_owing ExStart m part h = absurd cc
      stated_owing Exchange m part h =
          let n : Neighbor = record m { state = Exchange } in
          first_two (Does n) (is_duplicate m.received d && m.is_master) (is_duplicate m.received d)
          _ (inr h) (repeat_owing moment n h)
          (mismatch_or_accepted (Does n) (mismatched_owing moment n (inr h))
          (accept_owing moment db n h)
          (same_flag d.master m.is_master) d.init (changes_options m.received d)
          (not (d.sequence == expected_sequence n)))
      stated_owing Loading m part h = over_owing (record m { state = Loading }) h
      stated_owing Full m part h = over_owing (record m { state = Full }) h

      pub description_owing : (m : Neighbor) → is_exchange_or_later m.state ≡ true → Owing m
          → Owing (after_description own moment db d m).neighbor
      description_owing m part (inl before) = let no : true ≡ false = sym part ∙ before in absurd cc
      description_owing m part (inr h) =
          chosen OfStep (nat_lt 8192 d.mtu) (no_sends m) (in_state m.state own moment db d m)
          (λ c. inr h) (λ c. stated_owing m.state m part h)

  -- ---- Loading and Link State Requests

  filled_in : (s : NeighborState) (m : Neighbor) → Owing (record m {
    state = s;
  }) → Owing (loading_done_in s (record m { state = s }))
  filled_in Init m h = h
  filled_in ExStart m h = h
  filled_in Exchange m h = h
  filled_in Loading m h = chosen Owing (requests_nothing m) (record m {
    state = Full;
  }) (record m { state = Loading }) (λ e. still h) (λ e. h)
    where
      still : Owing (record m { state = Loading }) → Owing (record m { state = Full })
      still (inl e) = absurd cc
      still (inr k) = inr k
  filled_in Full m h = h

  pub filled_owing : (m : Neighbor) → Owing m → Owing (loading_done m)
  filled_owing m h = filled_in m.state m h

  pub request_owing : (moment : ℕ) (m : Neighbor) → Owing m → Owing (request_next moment m).neighbor
  request_owing moment m h =
      chosen OfStep (is_to_request m) (record {
        neighbor = record m { outstanding = set.from_list (next_request m); requested_at = moment };
        sends = Requests (next_request m) ∷ [];
      }) (no_sends m)
      (λ e. h) (λ e. h)

  -- ---- a Tick

  repeated_of : (o : Option Description) (moment : ℕ) (m : Neighbor) → Owing m
      → Owing (repeat moment (record m { described = o })).neighbor
  repeated_of None moment m h = h
  repeated_of (Some d) moment m h = h

  pub again_owing : (moment interval : ℕ) (db : Database) (m : Neighbor) → Owing m
      → Owing (send_again moment interval db m).neighbor
  again_owing moment interval db m h =
      update_owing asked (request_again_owing described (describe_again_owing m h))
    where
      described : Neighbor
      described = (describe_again moment interval m).neighbor

      asked : Neighbor
      asked = (request_again moment interval (describe_again moment interval m).neighbor).neighbor

      describe_again_owing : (n : Neighbor) → Owing n
          → Owing (describe_again moment interval n).neighbor
      describe_again_owing n k =
          chosen OfStep (repeats_description n.state n.is_master && has_passed n.described_at
          interval moment) (repeat moment n) (no_sends n)
          (λ e. repeated_of n.described moment n k) (λ e. k)

      request_again_owing : (n : Neighbor) → Owing n
          → Owing (request_again moment interval n).neighbor
      request_again_owing n k =
          chosen OfStep (not (set.len n.outstanding == 0) && has_passed n.requested_at interval
          moment)
          (record {
            neighbor = record n { requested_at = moment };
            sends = Requests (still_outstanding n) ∷ [];
          }) (no_sends n) (λ e. k) (λ e. k)

      update_owing : (n : Neighbor) → Owing n → Owing (update_again moment interval db n).neighbor
      update_owing n k =
          chosen OfStep (not (finite.len n.retransmissions == 0) && has_passed n.retransmitted_at
          interval moment)
          (record {
            neighbor = record n { retransmitted_at = moment };
            sends = map Updates (next_retransmissions moment db n);
          }) (no_sends n) (λ e. k) (λ e. k)

  pub old_description_owing : (moment dead : ℕ) (m : Neighbor) → Owing m
      → Owing (without_old_description moment dead m)
  old_description_owing moment dead m h =
      chosen Owing (is_over_for moment dead m.exchanged) (record m {
        described = None;
      }) m (λ e. h) (λ e. h)

  -- ---- what is acknowledged

  -- the same instance as an entry is this one, or has another key
  pub released_owing : (moment : ℕ) (x : Header) (m : Neighbor)
      → is_entry moment x (finite.get m.retransmissions (key_of x)) ≡ true → Owing m
      → Owing (remove_retransmission (key_of x) m) ⊎ (identity_of_header x ≡ name)
  released_owing moment x m is (inl before) = inl (inl before)
  released_owing moment x m is (inr h) = by_key (same_key key (key_of x)) refl
    where
      named : (o : Option ListEntry) → is_entry moment x o ≡ true
          → listed_instance (key_of x) o ≡ Some name → identity_of_header x ≡ name
      named None at e = absurd cc
      named (Some l) at e = same_name moment x l name at cc

      by_key : (b : Bool) → same_key key (key_of x) ≡ b
          → Owing (remove_retransmission (key_of x) m) ⊎ (identity_of_header x ≡ name)
      by_key true same =
          inr (named (finite.get m.retransmissions (key_of x)) is
          (subst (λ (k : Key). listed_instance k (finite.get m.retransmissions k) ≡ Some name)
          (tied_key key (key_of x) same) h.0))
      by_key false other = inl (released_other (key_of x) m other (inr h))

  pub acknowledgment_owing : (moment : ℕ) (xs : List Header) (m : Neighbor) → Owing m
      → Owing (after_acknowledgment moment xs m) ⊎ Contains (map identity_of_header xs) name
  acknowledgment_owing moment [] m h = inl h
  acknowledgment_owing moment (x ∷ xs) m h =
      then_rest first (λ k. acknowledgment_owing moment xs (acknowledged_neighbor moment m x) k)
    where
      first : Owing (acknowledged_neighbor moment m x) ⊎ (identity_of_header x ≡ name)
      first =
          chosen (λ (n : Neighbor). Owing n ⊎ (identity_of_header x ≡ name))
          (is_entry moment x (finite.get m.retransmissions (key_of x)))
          (remove_retransmission (key_of x) m) m
          (λ e. released_owing moment x m e h) (λ e. inl h)

      later : Owing (after_acknowledgment moment xs (acknowledged_neighbor moment m x))
          ⊎ Contains (map identity_of_header xs) name
          → Owing (after_acknowledgment moment (x ∷ xs) m)
          ⊎ Contains (map identity_of_header (x ∷ xs)) name
      later (inl k) = inl k
      later (inr c) = inr (later_is (identity_of_header x) (map identity_of_header xs) name c)

      then_rest : Owing (acknowledged_neighbor moment m x) ⊎ (identity_of_header x ≡ name)
          → (Owing (acknowledged_neighbor moment m x)
          → Owing (after_acknowledgment moment xs (acknowledged_neighbor moment m x))
          ⊎ Contains (map identity_of_header xs) name)
          → Owing (after_acknowledgment moment (x ∷ xs) m)
          ⊎ Contains (map identity_of_header (x ∷ xs)) name
      then_rest (inl k) rest = later (rest k)
      then_rest (inr is) rest = inr (named_first (identity_of_header x) (map identity_of_header xs)
          name is)
