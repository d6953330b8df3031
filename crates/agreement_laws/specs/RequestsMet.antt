-- Flooding and the request list (RFC 2328, section 13.3, step 1b): an LSA that is flooded at moment
-- 100, and was received at interface 1, compared with the instance of its key on the request list
-- of the neighbor at interface 2.
use Rattle.std.specs.Prelude.{◌≡◌, ℤ, pos, true, false, [], ◌∷◌, None, Some}
use Rattle.std.specs.FinMap as finite
use Rattle.std.specs.FinSet as set
use Rattle.words.specs.declared.key.Key.{Key}
use Rattle.lsa.specs.declared.body.LsaBody.{LsaBody}
use Rattle.lsdb.specs.Headers.{Lsa, lsa_key}
use Rattle.lsdb.specs.Instances.{ListEntry}
use Rattle.adjacency.specs.Contents.{Step, Updates}
use Rattle.adjacency.specs.Neighbors.{Neighbor, is_exchange_or_later}
use Rattle.adjacency.specs.declared.state.NeighborState.{NeighborState}
use Rattle.adjacency.specs.declared.state.NeighborState.TheVariants.{Exchange, Full, Loading}
use Rattle.received.specs.Flooding.{flood_to}
use Rattle.received.specs.Links.{Link}
use Rattle.received.specs.WorkedTable.{external_lsa}

-- the LSA with this sequence number
abbrev pub instance : LsaBody → ℤ → Lsa
instance contents sequence = external_lsa contents sequence 10

-- the neighbor described number 5 at moment 100, which is on its request list
abbrev pub told_entry : LsaBody → ListEntry
told_entry contents = record { header = (instance contents (pos 5)).header; at = 100 }

abbrev pub its_key : LsaBody → Key
its_key contents = lsa_key (instance contents (pos 5))

pub record IsAskedFor (contents : LsaBody) (state : NeighborState) (n : Neighbor) : Type 0 where
  pub is_in : n.state ≡ state
  pub is_requested : finite.get n.requests (its_key contents) ≡ Some (told_entry contents)

-- it is flooded to the neighbor at interface 2
abbrev pub flooded_on : LsaBody → ℤ → Link → Neighbor → Step
flooded_on contents sequence link n = flood_to 100 (Some 1) (instance contents sequence) 2 link n

-- ---- what happens to the request and the LSA

-- the request list still has its entry
abbrev pub IsStillRequested : LsaBody → Step → Type 0
IsStillRequested contents s = finite.get s.neighbor.requests (its_key contents)
    ≡ Some (told_entry contents)

-- it was removed from the request list, and is no longer outstanding
abbrev pub IsMet : LsaBody → Step → Type 0
IsMet contents s =
    (finite.get s.neighbor.requests (its_key contents) ≡ None)
    × (set.contains s.neighbor.outstanding (its_key contents) ≡ false)

-- the LSA is neither sent nor on the retransmission list
abbrev pub IsNotSent : LsaBody → Step → Type 0
IsNotSent contents s =
    (s.sends ≡ []) × (finite.get s.neighbor.retransmissions (its_key contents) ≡ None)

-- the LSA is sent, and on the retransmission list
abbrev pub IsSentOn : LsaBody → Lsa → Step → Type 0
IsSentOn contents lsa s =
    (s.sends ≡ Updates lsa ∷ [])
    × (finite.get s.neighbor.retransmissions (its_key contents)
    ≡ Some (record { header = lsa.header; at = 100 }))

-- a state in which the request list matters
pub record RequestsCountIn (state : NeighborState) : Type 0 where
  -- number 4 is less recent than the requested instance
  pub less_recent : (b : LsaBody) (link : Link) (n : Neighbor) → IsAskedFor b state n
      → IsStillRequested b (flooded_on b (pos 4) link n)
      × IsNotSent b (flooded_on b (pos 4) link n)
  -- number 5 is the same instance
  pub the_same : (b : LsaBody) (link : Link) (n : Neighbor) → IsAskedFor b state n
      → IsMet b (flooded_on b (pos 5) link n) × IsNotSent b (flooded_on b (pos 5) link n)
  -- number 6 is more recent
  pub more_recent : (b : LsaBody) (link : Link) (n : Neighbor) → IsAskedFor b state n
      → IsMet b (flooded_on b (pos 6) link n)
      × IsSentOn b (instance b (pos 6)) (flooded_on b (pos 6) link n)
  -- number 6 from this neighbor itself
  pub from_it : (b : LsaBody) (link : Link) (n : Neighbor) → IsAskedFor b state n
      → IsMet b (flood_to 100 (Some 2) (instance b (pos 6)) 2 link n)
      × IsNotSent b (flood_to 100 (Some 2) (instance b (pos 6)) 2 link n)

pub record RequestsAreMetByFlooding : Type 0 where
  pub in_exchange : RequestsCountIn Exchange
  pub in_loading : RequestsCountIn Loading
  -- each LSA is sent to a Full neighbor, whatever its request list
  pub full : (b : LsaBody) (sequence : ℤ) (link : Link) (n : Neighbor) → n.state ≡ Full
      → IsSentOn b (instance b sequence) (flooded_on b sequence link n)
  -- and to one that doesn't request it
  pub not_asked : (b : LsaBody) (sequence : ℤ) (link : Link) (n : Neighbor)
      → is_exchange_or_later n.state ≡ true → finite.get n.requests (its_key b) ≡ None
      → IsSentOn b (instance b sequence) (flooded_on b sequence link n)
