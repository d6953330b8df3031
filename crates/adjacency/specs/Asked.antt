-- What an LSA of a received Link State Update requires to be known of its sender, if there is one
-- (RFC 2328, section 13).
use Rattle.std.specs.Prelude.{Bool, false, Option, None, Some}
use Rattle.std.specs.FinMap as finite
use Rattle.words.specs.Numbers.{Moment}
use Rattle.words.specs.declared.key.Key.{Key}
use Rattle.lsdb.specs.Headers.{Header, key_of}
use Rattle.adjacency.specs.Neighbors.{Neighbor, is_exchange_or_loading}
use Rattle.adjacency.specs.Retransmissions.{is_entry}

-- there is a neighbor in Exchange or Loading
abbrev pub neighbor_is_exchange_or_loading : Option Neighbor → Bool
neighbor_is_exchange_or_loading None = false
neighbor_is_exchange_or_loading (Some n) = is_exchange_or_loading n.state

-- the key is on the neighbor's request list
abbrev pub is_on_request_list : Key → Option Neighbor → Bool
is_on_request_list key None = false
is_on_request_list key (Some n) = finite.contains_key n.requests key

-- the key is on the neighbor's retransmission list
abbrev pub has_retransmission : Key → Option Neighbor → Bool
has_retransmission key None = false
has_retransmission key (Some n) = finite.contains_key n.retransmissions key

-- exactly this instance is on the retransmission list
abbrev pub has_retransmission_of : Moment → Header → Option Neighbor → Bool
has_retransmission_of moment h None = false
has_retransmission_of moment h (Some n) = is_entry moment h
    (finite.get n.retransmissions (key_of h))
