-- A property of a neighbor in each of its steps but Descriptions: it stays if it isn't about timers
-- and what is outstanding, and holds of a neighbor in Init and in a new attempt.
use Rattle.std.proofs.Common.{◌≡◌, ℕ, Bool, true, false, not, ◌&&◌, List, [], ◌∷◌, map, Option}
use Rattle.std.proofs.Common.{None, Some}
use Rattle.std.specs.Prelude.{◌==◌}
use Rattle.std.specs.FinMap as finite
use Rattle.std.specs.FinSet as set
use Rattle.words.specs.declared.key.Key.{Key}
use Rattle.lsdb.specs.Copies.{Database}
use Rattle.lsdb.specs.Headers.{Header, Lsa, key_of, lsa_key}
use Rattle.packet.specs.declared.model.Description.{Description}
use Rattle.adjacency.specs.declared.state.NeighborState.{NeighborState}
use Rattle.adjacency.specs.declared.state.NeighborState.TheVariants.{Init, ExStart, Exchange}
use Rattle.adjacency.specs.declared.state.NeighborState.TheVariants.{Loading, Full}
use Rattle.adjacency.specs.Adjacencies.{after_hello, enter_exstart, has_passed, loading_done}
use Rattle.adjacency.specs.Adjacencies.{loading_done_in, mismatch_step, requests_nothing}
use Rattle.adjacency.specs.Adjacencies.{two_way_received_in, with_hello_heard}
use Rattle.adjacency.specs.Contents.{Requests, Step, Updates, no_sends}
use Rattle.adjacency.specs.Descriptions.{is_over_for, repeat, without_old_description}
use Rattle.adjacency.specs.Floods.{flooding, satisfies_request, request_of}
use Rattle.adjacency.specs.Floods.{without_satisfied_request}
use Rattle.adjacency.specs.Neighbors.{Neighbor, fresh, is_exchange_or_later}
use Rattle.adjacency.specs.Requests.{is_to_request, next_request, request_next, still_outstanding}
use Rattle.adjacency.specs.Requests.{without_request}
use Rattle.adjacency.specs.Retransmissions.{acknowledged_neighbor, add_retransmission}
use Rattle.adjacency.specs.Retransmissions.{after_acknowledgment, describe_again, is_entry}
use Rattle.adjacency.specs.Retransmissions.{next_retransmissions, remove_retransmission}
use Rattle.adjacency.specs.Retransmissions.{repeats_description, request_again, send_again}
use Rattle.adjacency.specs.Retransmissions.{update_again}
use Rattle.adjacency.proofs.Kept.{chosen}
use Rattle.received.specs.Holds.{Holds}
use Rattle.invariants.proofs.Flooding.{flooding_so}

-- ---- a step, by its cases

module _ (Q : Step → Type 0) (moment : ℕ) (m : Neighbor) where
  pub request_so : Q (record {
    neighbor = record m { outstanding = set.from_list (next_request m); requested_at = moment };
    sends = Requests (next_request m) ∷ [];
  }) → Q (no_sends m) → Q (request_next moment m)
  request_so asks h =
      chosen Q (is_to_request m) (record {
        neighbor = record m { outstanding = set.from_list (next_request m); requested_at = moment };
        sends = Requests (next_request m) ∷ [];
      }) (no_sends m) (λ e. asks) (λ e. h)

  pub describe_again_so : (interval : ℕ) → Q (repeat moment m) → Q (no_sends m)
      → Q (describe_again moment interval m)
  describe_again_so interval repeats h =
      chosen Q (repeats_description m.state m.is_master && has_passed m.described_at interval
      moment)
      (repeat moment m) (no_sends m) (λ e. repeats) (λ e. h)

  pub request_again_so : (interval : ℕ) → Q (record {
    neighbor = record m { requested_at = moment };
    sends = Requests (still_outstanding m) ∷ [];
  }) → Q (no_sends m) → Q (request_again moment interval m)
  request_again_so interval asks h =
      chosen Q (not (set.len m.outstanding == 0) && has_passed m.requested_at interval moment)
      (record {
        neighbor = record m { requested_at = moment };
        sends = Requests (still_outstanding m) ∷ [];
      }) (no_sends m) (λ e. asks) (λ e. h)

  pub update_again_so : (interval : ℕ) (db : Database) → Q (record {
    neighbor = record m { retransmitted_at = moment };
    sends = map Updates (next_retransmissions moment db m);
  }) → Q (no_sends m) → Q (update_again moment interval db m)
  update_again_so interval db updates h =
      chosen Q (not (finite.len m.retransmissions == 0)
      && has_passed m.retransmitted_at interval moment) (record {
        neighbor = record m { retransmitted_at = moment };
        sends = map Updates (next_retransmissions moment db m);
      }) (no_sends m) (λ e. updates) (λ e. h)

-- ---- a property of the neighbor

module _ (P : Neighbor → Type 0) where
  abbrev pub Of : Neighbor → Type 0
  Of m = P (record m {
    outstanding = set.empty;
    last_heard = 0;
    described_at = 0;
    requested_at = 0;
    retransmitted_at = 0;
  })

  abbrev OfStep : Step → Type 0
  OfStep s = Of s.neighbor

  -- ---- flooding

  pub met : (moment : ℕ) (lsa : Lsa) (m : Neighbor) → Of (without_request (lsa_key lsa) m) → Of m
      → Of (without_satisfied_request moment lsa m)
  met moment lsa m without h =
      chosen Of (satisfies_request moment lsa (request_of m lsa))
      (without_request (lsa_key lsa) m) m
      (λ e. without) (λ e. h)

  -- when it is added to the retransmission list, or that of its key is removed
  pub flooded : (moment : ℕ) (from : Bool) (lsa : Lsa) (m : Neighbor)
      → Of (add_retransmission moment lsa.header (without_satisfied_request moment lsa m))
      → Of (remove_retransmission (lsa_key lsa) (without_satisfied_request moment lsa m)) → Of m
      → Of (flooding moment from lsa m).neighbor
  flooded moment from lsa m added removed h =
      flooding_so OfStep moment m from lsa added removed h

  -- ---- attempts and Hellos

  pub mismatched : (moment : ℕ) (m : Neighbor) → Of (enter_exstart moment m).neighbor → Of m
      → Of (mismatch_step moment m).neighbor
  mismatched moment m restarts h =
      chosen OfStep (is_exchange_or_later m.state) (enter_exstart moment m) (no_sends m)
      (λ e. restarts) (λ e. h)

  two_way : (moment : ℕ) (s : NeighborState) (m : Neighbor) → Of (enter_exstart moment m).neighbor
      → Of m → Of (two_way_received_in s moment m).neighbor
  two_way moment Init m restarts h = restarts
  two_way moment ExStart m restarts h = h
  two_way moment Exchange m restarts h = h
  two_way moment Loading m restarts h = h
  two_way moment Full m restarts h = h

  pub helloed : ((router : ℕ) (attempt : Option ℕ) (heard : ℕ) → Of (fresh router attempt heard))
      → (moment : ℕ) → ((m : Neighbor) → Of (enter_exstart moment m).neighbor) → (from : ℕ)
      (names : Bool) (o : Option Neighbor) → Holds Of o
      → Of (after_hello moment from names o).neighbor
  helloed begins moment restarts from true o h =
      let m : Neighbor = with_hello_heard from moment o in
      two_way moment m.state m (restarts m) (heard o h)
    where
      heard : (o : Option Neighbor) → Holds Of o → Of (with_hello_heard from moment o)
      heard None k = begins from None moment
      heard (Some m) k = k
  helloed begins moment restarts from false o h =
      let m : Neighbor = with_hello_heard from moment o in
      begins m.router m.dd_sequence_start m.last_heard

  -- ---- acknowledgments

  pub acknowledged : ((k : Key) (m : Neighbor) → Of m → Of (remove_retransmission k m))
      → (moment : ℕ) (xs : List Header) (m : Neighbor) → Of m
      → Of (after_acknowledgment moment xs m)
  acknowledged removes moment [] m h = h
  acknowledged removes moment (x ∷ xs) m h =
      acknowledged removes moment xs (acknowledged_neighbor moment m x)
      (chosen Of (is_entry moment x (finite.get m.retransmissions (key_of x)))
      (remove_retransmission (key_of x) m) m (λ e. removes (key_of x) m h) (λ e. h))

  -- ---- Loading, Requests and the last Description

  filled_in : (s : NeighborState) (m : Neighbor)
      → (Of (record m { state = Loading }) → Of (record m { state = Full }))
      → Of (record m { state = s }) → Of (loading_done_in s (record m { state = s }))
  filled_in Init m fills h = h
  filled_in ExStart m fills h = h
  filled_in Exchange m fills h = h
  filled_in Loading m fills h =
      chosen Of (requests_nothing m) (record m { state = Full }) (record m { state = Loading })
      (λ e. fills h) (λ e. h)
  filled_in Full m fills h = h

  pub filled : (m : Neighbor) → (Of (record m { state = Loading }) → Of (record m { state = Full }))
      → Of m → Of (loading_done m)
  filled m fills h = filled_in m.state m fills h

  pub asked : (moment : ℕ) (m : Neighbor) → Of m → Of (request_next moment m).neighbor
  asked moment m h = request_so OfStep moment m h h

  repeated_of : (moment : ℕ) (o : Option Description) (m : Neighbor)
      → Of (record m { described = o }) → Of (repeat moment (record m { described = o })).neighbor
  repeated_of moment None m h = h
  repeated_of moment (Some d) m h = h

  pub repeated : (moment : ℕ) (m : Neighbor) → Of m → Of (repeat moment m).neighbor
  repeated moment m h = repeated_of moment m.described m h

  pub again : (moment interval : ℕ) (db : Database) (m : Neighbor) → Of m
      → Of (send_again moment interval db m).neighbor
  again moment interval db m h =
      let described : Neighbor = (describe_again moment interval m).neighbor in
      let asked_again : Neighbor = (request_again moment interval described).neighbor in
      let so : Of described =
      describe_again_so OfStep moment m interval (repeated moment m h) h in
      let asks : Of asked_again = request_again_so OfStep moment described interval so so in
      update_again_so OfStep moment asked_again interval db asks asks

  pub old_description : (moment dead : ℕ) (m : Neighbor)
      → (is_over_for moment dead m.exchanged ≡ true → Of (record m { described = None })) → Of m
      → Of (without_old_description moment dead m)
  old_description moment dead m given_up h =
      chosen Of (is_over_for moment dead m.exchanged) (record m { described = None }) m given_up
      (λ e. h)
