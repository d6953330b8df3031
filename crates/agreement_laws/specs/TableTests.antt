-- Further rows of the table of received LSAs, in each of which only one test decides (RFC 2328,
-- section 13). The received LSA has sequence number 5 and age 10 at moment 100, unless stated
-- otherwise.
use Rattle.std.specs.Prelude.{◌≡◌, pos, Bool, false, Option, None, Some}
use Rattle.words.specs.Constants.{max_age, max_sequence_number}
use Rattle.lsa.specs.declared.body.LsaBody.{LsaBody}
use Rattle.lsdb.specs.Copies.{DatabaseCopy}
use Rattle.adjacency.specs.Neighbors.{Neighbor}
use Rattle.received.specs.Cases.{Case, case_of_readable}
use Rattle.received.specs.WorkedTable.{IsSender, comes_in, copy_of_it, external_lsa}

-- a copy of instance 4 that this router originated and sent at moment 100
abbrev pub originated_copy : LsaBody → Option DatabaseCopy
originated_copy contents =
    Some (record {
      lsa = external_lsa contents (pos 4) 0;
      stored = 100;
      received = None;
      sent = Some 100;
    })

pub record EachTestOfTheTableCounts : Type 0 where
  -- at MaxAge, but newer than an existing copy: it isn't only acknowledged
  pub aged_over_a_copy : (b : LsaBody) (from : Option Neighbor)
      → case_of_readable 100 (copy_of_it b (pos 4) 0 90 90) from false
      (external_lsa b (pos 5) max_age) ≡ Case.Newer
  -- without a copy, but young: it isn't only acknowledged either
  pub young_and_new : (b : LsaBody) (from : Option Neighbor) (s : Bool)
      → comes_in b None from s ≡ Case.Newer
  -- newer than a copy of the same second that wasn't installed by flooding: it isn't too soon
  pub over_an_originated_copy : (b : LsaBody) (from : Option Neighbor) (s : Bool)
      → comes_in b (originated_copy b) from s ≡ Case.Newer
  -- the same instance in the second in which it was installed: it isn't too soon either
  pub again_at_once : (b : LsaBody) (from : Option Neighbor) (s : Bool)
      → IsSender b from false false → comes_in b (copy_of_it b (pos 5) 0 100 90) from s
      ≡ Case.Duplicate
  -- the copy has MaxSequenceNumber, but isn't at MaxAge; and conversely: it isn't being flushed
  pub young_at_the_last_number : (b : LsaBody) (from : Option Neighbor) (s listed : Bool)
      → IsSender b from false listed
      → comes_in b (copy_of_it b max_sequence_number 0 90 90) from s ≡ Case.Older
  pub aged_at_another_number : (b : LsaBody) (from : Option Neighbor) (s listed : Bool)
      → IsSender b from false listed
      → comes_in b (copy_of_it b (pos 6) max_age 90 90) from s ≡ Case.Older
