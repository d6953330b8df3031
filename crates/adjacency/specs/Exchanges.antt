-- The database exchange in terms that the code's contracts use (RFC 2328, sections 10.6 and 10.8).
use Rattle.std.specs.Prelude.{ℕ, ◌+◌, ◌%◌, ◌^◌, ◌==◌, Bool, true, false, not, ◌&&◌, nat_lt}
use Rattle.std.specs.Prelude.{if◌then◌else◌, List, [], ◌∷◌, Option, None, Some}
use Rattle.std.specs.FinMap as finite
use Rattle.words.specs.Numbers.{Moment, RouterNumber}
use Rattle.words.specs.declared.key.Key.{Key}
use Rattle.lsdb.specs.Copies.{Database, DatabaseCopy, is_aged_out, list_entry_of}
use Rattle.lsdb.specs.Headers.{Header}
use Rattle.lsdb.specs.Instances.{ListEntry, listed_header_now}
use Rattle.lsdb.specs.Keys.{ByKey}
use Rattle.packet.specs.declared.model.Description.{Description}
use Rattle.adjacency.specs.declared.state.NeighborState.{NeighborState}
use Rattle.adjacency.specs.declared.state.NeighborState.TheVariants.{Init, ExStart, Exchange}
use Rattle.adjacency.specs.declared.state.NeighborState.TheVariants.{Loading, Full}
use Rattle.adjacency.specs.declared.standing.Standing.{Standing}
use Rattle.adjacency.specs.declared.verdict.Verdict.{Verdict as Said}
use Rattle.adjacency.specs.declared.verdict.Verdict.TheVariants as said
use Rattle.adjacency.specs.declared.verdict.Mismatch.{Mismatch}
use Rattle.adjacency.specs.Contents.{Step, no_sends}
use Rattle.adjacency.specs.Descriptions.{Verdict, as_received, is_initial_description, process}
use Rattle.adjacency.specs.Descriptions.{knows_types, master_goes_on, negotiated_neighbor, repeat}
use Rattle.adjacency.specs.Descriptions.{slave_replies, verdict, with_requests}
use Rattle.adjacency.specs.Neighbors.{Neighbor}

-- ---- verdicts

-- the verdict of the definitions for a verdict of the code
abbrev pub verdict_of : Said → Verdict
verdict_of said.Discarded = Verdict.Discarded
verdict_of said.NegotiatedAsSlave = Verdict.NegotiatedAsSlave
verdict_of said.NegotiatedAsMaster = Verdict.NegotiatedAsMaster
verdict_of said.Repeated = Verdict.Repeated
verdict_of said.Accepted = Verdict.Accepted
verdict_of (said.Mismatch why) = Verdict.Mismatch

-- the reason of a mismatch
abbrev pub mismatch_of : Said → Option Mismatch
mismatch_of said.Discarded = None
mismatch_of said.NegotiatedAsSlave = None
mismatch_of said.NegotiatedAsMaster = None
mismatch_of said.Repeated = None
mismatch_of said.Accepted = None
mismatch_of (said.Mismatch why) = Some why

-- the reason of the first test that succeeds
abbrev pub first_mismatch : List (Bool × Mismatch) → Option Mismatch
first_mismatch [] = None
first_mismatch (t ∷ ts) = if t.0 then Some t.1 else first_mismatch ts

-- the fields of a neighbor except its lists and its last Database Description
abbrev pub standing_of : Neighbor → Standing
standing_of n = record {
  router = n.router;
  state = n.state;
  is_master = n.is_master;
  sequence = n.sequence;
  dd_sequence_start = n.dd_sequence_start;
  received = n.received;
  exchanged = n.exchanged;
  last_heard = n.last_heard;
  described_at = n.described_at;
  requested_at = n.requested_at;
  retransmitted_at = n.retransmitted_at;
}

-- the verdict, under a name for contracts
unfoldable pub verdict_of_description : RouterNumber → Neighbor → Description → Verdict
verdict_of_description own n d = verdict own n d

-- the verdict on a Database Description from the neighbor, if there is one
abbrev pub judged_on : RouterNumber → Option Neighbor → Description → Verdict
judged_on own None d = Verdict.Discarded
judged_on own (Some n) d = verdict_of_description own n d

-- this router becomes the slave: the other side has the larger Router ID and starts the negotiation
abbrev pub becomes_slave : RouterNumber → RouterNumber → Description → Bool
becomes_slave own other d = is_initial_description d && nat_lt own other

-- this router becomes the master: the other side has taken over its sequence number
abbrev pub becomes_master : RouterNumber → RouterNumber → ℕ → Description → Bool
becomes_master own other sequence d =
    not d.init && not d.master && d.sequence == sequence && nat_lt other own

-- the sequence number of the next Database Description from the other side: `expected_sequence` of
-- `Descriptions`, by the standing alone
abbrev pub expected_of : Standing → ℕ
expected_of s = if s.is_master then s.sequence else (s.sequence + 1) % 2 ^ 32

-- ---- steps

-- a mismatch, or an accepted Database Description with a header of an unknown LS type
abbrev pub starts_over : Verdict → Description → Bool
starts_over Verdict.Discarded d = false
starts_over Verdict.NegotiatedAsSlave d = not (knows_types d)
starts_over Verdict.NegotiatedAsMaster d = not (knows_types d)
starts_over Verdict.Repeated d = false
starts_over Verdict.Accepted d = not (knows_types d)
starts_over Verdict.Mismatch d = true

-- an accepted Database Description whose headers all have known LS types: `accept` of
-- `Descriptions`, in the form that contracts use
unfoldable pub accept_description : Moment → Database → Description → Neighbor → Step
accept_description moment db d n =
    let m : Neighbor =
    with_requests moment db d.headers (record n { received = Some (as_received d) }) in
    if m.is_master then master_goes_on moment d m else slave_replies moment d m

-- the step of a verdict that doesn't start over
unfoldable pub proceeding : Verdict → Moment → Database → Description → Neighbor → Step
proceeding Verdict.Discarded moment db d n = no_sends n
proceeding Verdict.NegotiatedAsSlave moment db d n =
    accept_description moment db d (negotiated_neighbor false d.sequence moment db n)
proceeding Verdict.NegotiatedAsMaster moment db d n =
    accept_description moment db d (negotiated_neighbor true n.sequence moment db n)
proceeding Verdict.Repeated moment db d n = repeat moment n
proceeding Verdict.Accepted moment db d n = accept_description moment db d n
proceeding Verdict.Mismatch moment db d n = no_sends n

-- the complete step, under a name for contracts
unfoldable pub process_description : RouterNumber → Moment → Database → Description → Neighbor
    → Step
process_description own moment db d n = process own moment db d n

abbrev pub is_init : NeighborState → Bool
is_init Init = true
is_init ExStart = false
is_init Exchange = false
is_init Loading = false
is_init Full = false

-- there is a neighbor in Init
abbrev pub any_init : Option Neighbor → Bool
any_init None = false
any_init (Some n) = is_init n.state

-- ---- lists

-- the entry's header with its age at the moment, if there is an entry
abbrev pub entry_header : Moment → Option ListEntry → Option Header
entry_header moment None = None
entry_header moment (Some l) = Some (listed_header_now moment l)

-- the copy is added to the list, if there is one and it passes the test
abbrev pub with_copy : (DatabaseCopy → Bool) → Moment → Key → Option DatabaseCopy → ByKey ListEntry
    → ByKey ListEntry
with_copy test moment key None list = list
with_copy test moment key (Some c) list =
    if test c then finite.insert list key (list_entry_of moment c) else list

abbrev pub with_key : (DatabaseCopy → Bool) → Moment → Database → ByKey ListEntry → Key
    → ByKey ListEntry
with_key test moment db list key = with_copy test moment key (finite.get db key) list

abbrev pub is_young : Moment → DatabaseCopy → Bool
is_young moment c = not (is_aged_out moment c)
