-- Steps of the neighbor state machine under names for contracts, and what they are without a
-- neighbor.
use Rattle.std.specs.Prelude.{Bool, false, if◌then◌else◌, List, map, Option, None, Some}
use Rattle.std.specs.List.{filter_map, list_all}
use Rattle.std.specs.FinMap as finite
use Rattle.words.specs.Numbers.{Moment, RouterNumber}
use Rattle.words.specs.declared.key.Key.{Key}
use Rattle.lsdb.specs.Copies.{Database}
use Rattle.lsdb.specs.Headers.{Lsa}
use Rattle.adjacency.specs.Adjacencies.{mismatch_step}
use Rattle.adjacency.specs.Contents.{Step, Updates, no_sends}
use Rattle.adjacency.specs.declared.state.NeighborState.{NeighborState}
use Rattle.adjacency.specs.Neighbors.{Neighbor, is_exchange_or_later}
use Rattle.adjacency.specs.Retransmissions.{lsa_of}

-- the Router ID and the state of the neighbor, if there is one
abbrev pub named_neighbor : Option Neighbor → Option (RouterNumber × NeighborState)
named_neighbor None = None
named_neighbor (Some n) = Some (n.router, n.state)

-- a Hello was received from the neighbor, if there is one: its inactivity timer is restarted
abbrev pub heard : Moment → Option Neighbor → Option Neighbor
heard moment None = None
heard moment (Some n) = Some (record n { last_heard = moment })

-- there is a neighbor in Exchange or later
abbrev pub neighbor_is_exchange_or_later : Option Neighbor → Bool
neighbor_is_exchange_or_later None = false
neighbor_is_exchange_or_later (Some n) = is_exchange_or_later n.state

-- ---- Link State Requests (section 10.7)

abbrev pub is_there : Database → Key → Bool
is_there db key = finite.contains_key db key

-- the copies of these keys, as they are at the moment
abbrev pub lsas_of : Moment → Database → List Key → List Lsa
lsas_of moment db keys = filter_map (λ (key : Key). lsa_of moment (finite.get db key)) keys

-- the LSAs are sent, without being put on the retransmission list; if one is missing, none is sent
-- (BadLSReq): what `receive_request` of `event_rules` does at one neighbor
abbrev pub answer_to_request : Moment → Database → List Key → Neighbor → Step
answer_to_request moment db keys n =
    if list_all (is_there db) keys
    then record { neighbor = n; sends = map Updates (lsas_of moment db keys) }
    else mismatch_step moment n

-- a Link State Request is ignored before Exchange
unfoldable pub after_request : Moment → Database → List Key → Neighbor → Step
after_request moment db keys n =
    if is_exchange_or_later n.state then answer_to_request moment db keys n else no_sends n
