-- The neighbor of the definitions from a neighbor's fields.
use Rattle.std.specs.Prelude.{ℕ, Bool, true, false, not, Option, None, Some}
use Rattle.std.specs.FinMap as finite
use Rattle.std.specs.FinSet as set
use Rattle.lsdb.specs.Instances.{ListEntry}
use Rattle.lsdb.specs.Keys.{ByKey, KeySet}
use Rattle.packet.specs.declared.model.Description.{Description}
use Rattle.adjacency.specs.Kept.{Kept}
use Rattle.adjacency.specs.Neighbors.{Neighbor, fresh}
use Rattle.adjacency.specs.declared.state.NeighborState.TheVariants.{Init, ExStart, Exchange}
use Rattle.adjacency.specs.declared.state.NeighborState.TheVariants.{Loading, Full}
use Rattle.adjacency.specs.declared.state.NeighborState.{NeighborState}
use Rattle.adjacency.specs.Adjacencies.{after_hello}
use Rattle.adjacency.specs.Contents.{Step}
use Rattle.adjacency.specs.declared.standing.Standing.{Standing}

abbrev pub keys_of : {X : Type 0} → ByKey X → KeySet
keys_of m = set.from_list (finite.keys m)

unfoldable pub neighbor_of : {X : Type 0} → Standing → Option Description → ByKey ListEntry
    → ByKey ListEntry → ByKey X → ByKey ListEntry → Neighbor
neighbor_of s described summary requests outstanding retransmissions = record {
  router = s.router;
  state = s.state;
  is_master = s.is_master;
  sequence = s.sequence;
  dd_sequence_start = s.dd_sequence_start;
  received = s.received;
  described = described;
  exchanged = s.exchanged;
  summary = summary;
  requests = requests;
  retransmissions = retransmissions;
  outstanding = keys_of outstanding;
  last_heard = s.last_heard;
  described_at = s.described_at;
  requested_at = s.requested_at;
  retransmitted_at = s.retransmitted_at;
}

-- the value before the first change in an event, else the present value
abbrev pub committed_value : {A : Type 0} → Option A → A → A
committed_value None present = present
committed_value (Some before) present = before

abbrev pub present_of : Option (Kept Neighbor) → Option Neighbor
present_of None = None
present_of (Some n) = Some n.present

abbrev pub committed_of : Option (Kept Neighbor) → Option Neighbor
committed_of None = None
committed_of (Some n) = Some n.committed

-- the neighbor that was moved away, if one was, else the present one
abbrev pub committed_among : Option (Option (Kept Neighbor)) → Option (Kept Neighbor)
    → Option Neighbor
committed_among None there = committed_of there
committed_among (Some before) there = committed_of before

abbrev pub fresh_standing : ℕ → Option ℕ → ℕ → Standing
fresh_standing router dd_sequence_start last_heard = record {
  router = router;
  state = Init;
  is_master = false;
  sequence = 0;
  dd_sequence_start = dd_sequence_start;
  received = None;
  exchanged = None;
  last_heard = last_heard;
  described_at = 0;
  requested_at = 0;
  retransmitted_at = 0;
}

abbrev pub started_standing : ℕ → ℕ → ℕ → ℕ → Standing
started_standing moment router dd_sequence last_heard = record {
  router = router;
  state = ExStart;
  is_master = true;
  sequence = dd_sequence;
  dd_sequence_start = Some dd_sequence;
  received = None;
  exchanged = None;
  last_heard = last_heard;
  described_at = moment;
  requested_at = 0;
  retransmitted_at = 0;
}

-- the step of a neighbor that starts over at a Hello, by whether that lists this router
unfoldable pub restarted : ℕ → ℕ → Option ℕ → Bool → Step
restarted moment router dd_sequence_start lists_us =
    after_hello moment router lists_us (Some (fresh router dd_sequence_start moment))

-- the neighbor starts over at a Hello: always in Init, and otherwise if the Hello doesn't list this
-- router
abbrev pub restarts : NeighborState → Bool → Bool
restarts Init lists_us = true
restarts ExStart lists_us = not lists_us
restarts Exchange lists_us = not lists_us
restarts Loading lists_us = not lists_us
restarts Full lists_us = not lists_us
