-- What a Link State Acknowledgment removes from a retransmission list (RFC 2328, section 13.7).
use Rattle.std.specs.Prelude.{◌≡◌, ℕ, Bool, ◌&&◌, if◌then◌else◌, List, None, Some}
use Rattle.std.specs.FinMap as finite
use Rattle.std.specs.List.{list_any}
use Rattle.words.specs.declared.key.Key.{Key}
use Rattle.lsdb.specs.Headers.{Header, key_of}
use Rattle.lsdb.specs.Instances.{ListEntry, same_as_listed}
use Rattle.lsdb.specs.Keys.{same_key}
use Rattle.adjacency.specs.Neighbors.{Neighbor}
use Rattle.adjacency.specs.Retransmissions.{after_acknowledgment}

-- some header has the entry's key and is the same instance as the entry at this moment
abbrev pub is_named : ℕ → Key → ListEntry → List Header → Bool
is_named moment key entry headers =
    list_any (λ (h : Header). same_key key (key_of h) && same_as_listed moment h entry) headers

pub record AcknowledgmentsTakeOffWhatTheyName : Type 0 where
  -- an entry that is acknowledged is removed, wherever its header is; any other stays the same
  pub entries : (moment : ℕ) (headers : List Header) (n : Neighbor) (key : Key)
      (entry : ListEntry) → finite.get n.retransmissions key ≡ Some entry
      → finite.get (after_acknowledgment moment headers n).retransmissions key
      ≡ (if is_named moment key entry headers then None else Some entry)
  -- none is added
  pub no_entry : (moment : ℕ) (headers : List Header) (n : Neighbor) (key : Key)
      → finite.get n.retransmissions key ≡ None
      → finite.get (after_acknowledgment moment headers n).retransmissions key ≡ None
  -- and nothing else of the neighbor changes
  pub all_else : (moment : ℕ) (headers : List Header) (n : Neighbor)
      → after_acknowledgment moment headers n
      ≡ record n { retransmissions = (after_acknowledgment moment headers n).retransmissions }
