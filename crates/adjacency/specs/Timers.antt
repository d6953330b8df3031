-- What a Tick does to one neighbor, under names for contracts (RFC 2328, sections 10.3, 10.8, 10.9
-- and 13.6).
use Rattle.std.specs.Prelude.{ℕ, ◌==◌, Bool, false, not, ◌&&◌, if◌then◌else◌, List, [], Option}
use Rattle.std.specs.Prelude.{None, Some}
use Rattle.std.specs.FinMap as finite
use Rattle.std.specs.FinSet as set
use Rattle.words.specs.Numbers.{Moment, Seconds}
use Rattle.lsdb.specs.Headers.{Lsa}
use Rattle.adjacency.specs.declared.state.NeighborState.{NeighborState}
use Rattle.adjacency.specs.declared.state.NeighborState.TheVariants.{Init, ExStart, Exchange}
use Rattle.adjacency.specs.declared.state.NeighborState.TheVariants.{Loading, Full}
use Rattle.adjacency.specs.Adjacencies.{after_inactivity_timer, has_passed}
use Rattle.adjacency.specs.Contents.{no_sends, step_on}
use Rattle.adjacency.specs.Descriptions.{without_old_description}
use Rattle.adjacency.specs.Neighbors.{Neighbor}
use Rattle.adjacency.specs.Retransmissions.{repeats_description, that_fit}

-- ---- timers that have expired

-- there is a neighbor whose inactivity timer has expired
abbrev pub is_any_inactive : Moment → (dead : Seconds) → Option Neighbor → Bool
is_any_inactive moment dead None = false
is_any_inactive moment dead (Some n) = has_passed n.last_heard dead moment

-- a neighbor whose inactivity timer has expired is Down; another one discards its last Database
-- Description once RouterDeadInterval has passed since the exchange
abbrev pub expire_neighbor_timers : Moment → (dead : Seconds) → Option Neighbor → Option Neighbor
expire_neighbor_timers moment dead n =
    step_on (λ m. no_sends (without_old_description moment dead m))
    (after_inactivity_timer moment dead n)

-- from Loading to Full if the request list is empty
abbrev pub full_where : NeighborState → (requests_nothing : Bool) → NeighborState
full_where Init requests_nothing = Init
full_where ExStart requests_nothing = ExStart
full_where Exchange requests_nothing = Exchange
full_where Loading requests_nothing = if requests_nothing then Full else Loading
full_where Full requests_nothing = Full

-- ---- what is retransmitted

abbrev pub description_is_due : Moment → (interval : Seconds) → Neighbor → Bool
description_is_due moment interval n =
    repeats_description n.state n.is_master && has_passed n.described_at interval moment

abbrev pub request_is_due : Moment → (interval : Seconds) → Neighbor → Bool
request_is_due moment interval n =
    not (set.len n.outstanding == 0) && has_passed n.requested_at interval moment

abbrev pub retransmission_is_due : Moment → (interval : Seconds) → Neighbor → Bool
retransmission_is_due moment interval n =
    not (finite.len n.retransmissions == 0) && has_passed n.retransmitted_at interval moment

-- the LSAs that fit after the given number of bytes; none after one that didn't fit
abbrev pub that_fit_after : Option ℕ → List Lsa → List Lsa
that_fit_after None ls = []
that_fit_after (Some used) ls = that_fit used ls
