-- How much a neighbor owes this router: what it has neither acknowledged nor sent.
use Rattle.std.specs.Prelude.{ℕ, ◌+◌, ◌-◌, ◌^◌, min, Option, None, Some}
use Rattle.std.specs.FinMap as finite
use Rattle.adjacency.specs.Neighbors.{Neighbor}

-- the entries of its retransmission list and of its request list (RFC 2328, section 10), counted;
-- at most 2^64 - 1
abbrev pub owed_by : Neighbor → ℕ
owed_by n = min (finite.len n.retransmissions + finite.len n.requests) (2 ^ 64 - 1)

-- one that is Down owes nothing
abbrev pub owed_on : Option Neighbor → ℕ
owed_on None = 0
owed_on (Some n) = owed_by n
