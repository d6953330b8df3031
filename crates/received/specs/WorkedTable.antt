-- The tests of a received LSA (`case_tests`), row by row, for instances of one LSA: the received
-- one has sequence number 5 and age 10 at moment 100.
use Rattle.std.specs.Prelude.{◌≡◌, ℤ, pos, Bool, true, false, Option, Some}
use Rattle.words.specs.Constants.{max_age, max_sequence_number}
use Rattle.words.specs.Numbers.{Moment, Seconds}
use Rattle.lsa.specs.declared.body.LsaBody.{LsaBody}
use Rattle.lsdb.specs.Copies.{DatabaseCopy}
use Rattle.lsdb.specs.Headers.{Lsa, lsa_key}
use Rattle.adjacency.specs.Neighbors.{Neighbor}
use Rattle.received.specs.Cases.{Case, case_of_readable}
use Rattle.adjacency.specs.Asked.{is_on_request_list, has_retransmission_of}

-- an AS-external-LSA of 9.9.9.9 for 203.0.113.0
abbrev pub external_lsa : LsaBody → ℤ → Seconds → Lsa
external_lsa contents sequence age = record {
  header = record {
    age = age;
    options = 2;
    ls_type = 5;
    link_state_id = 0xcb007100;
    advertising_router = 0x09090909;
    sequence = sequence;
    checksum = 0x5429;
    length = 36;
  };
  body = contents;
}

-- a copy that was installed by flooding and sent at these moments, with its age at moment 90
abbrev pub copy_of_it : LsaBody → ℤ → Seconds → Moment → Moment → Option DatabaseCopy
copy_of_it contents sequence age received sent =
    Some (record {
      lsa = external_lsa contents sequence age;
      stored = 90;
      received = Some received;
      sent = Some sent;
    })

-- the received LSA
abbrev pub arrival : LsaBody → Lsa
arrival contents = external_lsa contents (pos 5) 10

-- whether the LSA is on the sender's request list, and whether this instance is on its
-- retransmission list
pub record IsSender (contents : LsaBody) (from : Option Neighbor) (asked listed : Bool) : Type
    0 where
  pub is_asked : is_on_request_list (lsa_key (arrival contents)) from ≡ asked
  pub is_listed : has_retransmission_of 100 (arrival contents).header from ≡ listed

-- the case of the LSA received at moment 100 from a sender, by whether any neighbor is in Exchange
-- or Loading
abbrev pub comes_in : LsaBody → Option DatabaseCopy → Option Neighbor → Bool → Case
comes_in contents copy from synchronizing = case_of_readable 100 copy from synchronizing
    (arrival contents)

pub record WorkedTable : Type 0 where
  -- newer than a copy that was installed in the same second, and than one installed ten seconds ago
  pub too_soon : (b : LsaBody) (from : Option Neighbor) (s : Bool)
      → comes_in b (copy_of_it b (pos 4) 0 100 90) from s ≡ Case.TooSoon
  pub newer : (b : LsaBody) (from : Option Neighbor) (s : Bool)
      → comes_in b (copy_of_it b (pos 4) 0 90 90) from s ≡ Case.Newer
  -- not newer, although it is on the request list
  pub bad_request : (b : LsaBody) (from : Option Neighbor) (s listed : Bool)
      → IsSender b from true listed
      → comes_in b (copy_of_it b (pos 5) 0 90 90) from s ≡ Case.BadRequest
  -- the same instance, on the sender's retransmission list or not
  pub implied : (b : LsaBody) (from : Option Neighbor) (s : Bool) → IsSender b from false true
      → comes_in b (copy_of_it b (pos 5) 0 90 90) from s ≡ Case.ImpliedAcknowledgment
  pub duplicate : (b : LsaBody) (from : Option Neighbor) (s : Bool) → IsSender b from false false
      → comes_in b (copy_of_it b (pos 5) 0 90 90) from s ≡ Case.Duplicate
  -- the copy is newer: being flushed after MaxSequenceNumber; sent in the same second; neither
  pub wraps : (b : LsaBody) (from : Option Neighbor) (s listed : Bool)
      → IsSender b from false listed → comes_in b (copy_of_it b max_sequence_number max_age 90 100)
      from s ≡ Case.SequenceWraps
  pub just_sent : (b : LsaBody) (from : Option Neighbor) (s listed : Bool)
      → IsSender b from false listed
      → comes_in b (copy_of_it b (pos 6) 0 90 100) from s ≡ Case.SentJustNow
  pub older : (b : LsaBody) (from : Option Neighbor) (s listed : Bool)
      → IsSender b from false listed → comes_in b (copy_of_it b (pos 6) 0 90 90) from s ≡ Case.Older
