-- The flooding step of one neighbor (RFC 2328, section 13.3), by whether the LSA came from it.
use Rattle.std.specs.Prelude.{ℕ, Bool, true, false, not, ◌&&◌, if◌then◌else◌, List, [], ◌∷◌, Option}
use Rattle.std.specs.Prelude.{None, Some}
use Rattle.lsdb.specs.Headers.{Lsa, lsa_key}
use Rattle.lsdb.specs.Instances.{ListEntry, newer_than_listed, older_than_listed}
use Rattle.adjacency.specs.Contents.{Step, Updates, no_sends}
use Rattle.adjacency.specs.Neighbors.{Neighbor, is_exchange_or_loading, is_exchange_or_later}
use Rattle.adjacency.specs.Requests.{requested_entry, without_request}
use Rattle.adjacency.specs.Retransmissions.{add_retransmission, remove_retransmission}

-- the LSA satisfies the request: the requested instance isn't newer
abbrev pub satisfies_request : ℕ → Lsa → Option ListEntry → Bool
satisfies_request moment lsa None = false
satisfies_request moment lsa (Some r) = not (older_than_listed moment lsa.header r)

-- the LSA isn't requested, or is newer than the requested instance
abbrev pub exceeds_request : ℕ → Lsa → Option ListEntry → Bool
exceeds_request moment lsa None = true
exceeds_request moment lsa (Some r) = newer_than_listed moment lsa.header r

-- the entry of the LSA's key on the request list of a neighbor in Exchange or Loading
abbrev pub request_of : Neighbor → Lsa → Option ListEntry
request_of n lsa = if is_exchange_or_loading n.state then requested_entry n (lsa_key lsa) else None

abbrev pub without_satisfied_request : ℕ → Lsa → Neighbor → Neighbor
without_satisfied_request moment lsa n =
    if satisfies_request moment lsa (request_of n lsa) then without_request (lsa_key lsa) n else n

-- a request that the LSA satisfies is removed; the old instance is removed from the retransmission
-- list. The LSA is sent and added to that list if and only if it didn't come from this neighbor,
-- and no instance that is the same or newer is requested of it
abbrev pub flooded_in_exchange : ℕ → Bool → Lsa → Neighbor → Step
flooded_in_exchange moment came_in lsa n =
    if not came_in && exceeds_request moment lsa (request_of n lsa)
    then record {
      neighbor = add_retransmission moment lsa.header (without_satisfied_request moment lsa n);
      sends = Updates lsa ∷ [];
    }
    else no_sends (remove_retransmission (lsa_key lsa) (without_satisfied_request moment lsa n))

abbrev pub flooding : ℕ → Bool → Lsa → Neighbor → Step
flooding moment came_in lsa n =
    if is_exchange_or_later n.state then flooded_in_exchange moment came_in lsa n else no_sends n

-- the same, under a name for contracts
unfoldable pub flood_step : ℕ → Bool → Lsa → Neighbor → Step
flood_step moment came_in lsa n = flooding moment came_in lsa n

abbrev pub is_any : {A : Type 0} → List A → Bool
is_any [] = false
is_any (x ∷ xs) = true
