-- Which copies are unchanged from moment 100 to moment 110, for copies of one LSA and for LSAs of
-- several types (RFC 2328, sections 13.2 and 16).
use Rattle.std.specs.Prelude.{◌≡◌, ◌≢◌, ◌==◌, ℕ, ℤ, pos, Option, None, Some, if◌then◌else◌}
use Rattle.std.specs.FinMap as finite
use Rattle.words.specs.Numbers.{Moment, Seconds}
use Rattle.words.specs.declared.key.Key.{Key}
use Rattle.lsa.specs.declared.body.LsaBody.{LsaBody}
use Rattle.lsdb.specs.Copies.{Database, DatabaseCopy}
use Rattle.kept_routes.specs.Sameness.{AreLsasUnchanged, IsLsaUnchanged, HaveSameContents}
use Rattle.routes.specs.Contents.{Contents}

-- ---- one LSA

-- a copy with this sequence number and body, which had this age at this moment
abbrev pub copy : LsaBody → ℤ → Seconds → Moment → DatabaseCopy
copy contents number age stored = record {
  lsa = record {
    header = record {
      age = age;
      options = 2;
      ls_type = 1;
      link_state_id = 1;
      advertising_router = 1;
      sequence = number;
      checksum = 0;
      length = 0;
    };
    body = contents;
  };
  stored = stored;
  received = Some stored;
  sent = None;
}

abbrev pub IsUnchangedThen : Option DatabaseCopy → Option DatabaseCopy → Type 0
IsUnchangedThen old new = IsLsaUnchanged 100 110 old new

pub record WorkedCopies : Type 0 where
  -- there is none, or it stays the same
  pub none : IsUnchangedThen None None
  pub stays : (b : LsaBody) → IsUnchangedThen (Some (copy b (pos 4) 10 90))
      (Some (copy b (pos 4) 10 90))
  -- it was sent
  pub was_sent : (b : LsaBody) → IsUnchangedThen (Some (copy b (pos 4) 10 90))
      (Some (record (copy b (pos 4) 10 90) { sent = Some 105 }))
  -- it is refreshed: a new instance says the same, even if the old one was close to MaxAge
  pub refreshed : (b : LsaBody)
      → IsUnchangedThen (Some (copy b (pos 4) 1800 90)) (Some (copy b (pos 5) 0 105))
  pub refreshed_late : (b : LsaBody)
      → IsUnchangedThen (Some (copy b (pos 4) 3579 90)) (Some (copy b (pos 5) 0 105))
  -- it had reached MaxAge before, at moment 100 at the latest
  pub was_aged : (b : LsaBody)
      → IsUnchangedThen (Some (copy b (pos 4) 3600 90)) (Some (copy b (pos 4) 3600 90))
  pub just_aged : (b : LsaBody)
      → IsUnchangedThen (Some (copy b (pos 4) 3590 90)) (Some (copy b (pos 4) 3590 90))
  -- it is added or removed, at MaxAge too
  pub comes : (b : LsaBody) → IsUnchangedThen None (Some (copy b (pos 4) 10 105)) → ⊥
  pub comes_aged : (b : LsaBody) → IsUnchangedThen None (Some (copy b (pos 4) 3600 105)) → ⊥
  pub leaves : (b : LsaBody) → IsUnchangedThen (Some (copy b (pos 4) 10 90)) None → ⊥
  pub leaves_aged : (b : LsaBody) → IsUnchangedThen (Some (copy b (pos 4) 3600 90)) None → ⊥
  -- it says something else, at MaxAge too
  pub changes : (b c : LsaBody) → b ≢ c
      → IsUnchangedThen (Some (copy b (pos 4) 10 90)) (Some (copy c (pos 5) 0 105)) → ⊥
  pub changes_aged : (b c : LsaBody) → b ≢ c
      → IsUnchangedThen (Some (copy b (pos 4) 3600 90)) (Some (copy c (pos 4) 3600 90)) → ⊥
  -- it reaches MaxAge, at moment 101 or 110, and is flushed
  pub ages : (b : LsaBody)
      → IsUnchangedThen (Some (copy b (pos 4) 3589 90)) (Some (copy b (pos 4) 3589 90)) → ⊥
  pub ages_now : (b : LsaBody)
      → IsUnchangedThen (Some (copy b (pos 4) 3580 90)) (Some (copy b (pos 4) 3580 90)) → ⊥
  pub is_flushed : (b : LsaBody)
      → IsUnchangedThen (Some (copy b (pos 4) 10 90)) (Some (copy b (pos 4) 3600 105)) → ⊥
  -- it had MaxAge, or would have reached it, and another instance is there, young or at MaxAge
  pub is_back : (b : LsaBody)
      → IsUnchangedThen (Some (copy b (pos 4) 3600 90)) (Some (copy b (pos 5) 0 105)) → ⊥
  pub is_back_at_once : (b : LsaBody)
      → IsUnchangedThen (Some (copy b (pos 4) 3600 90)) (Some (copy b (pos 5) 0 90)) → ⊥
  pub is_back_too_late : (b : LsaBody)
      → IsUnchangedThen (Some (copy b (pos 4) 3580 90)) (Some (copy b (pos 5) 0 110)) → ⊥
  pub is_flushed_again : (b : LsaBody)
      → IsUnchangedThen (Some (copy b (pos 4) 3600 90)) (Some (copy b (pos 5) 3600 105)) → ⊥

-- ---- types

-- the LSAs of a type have this body, and no others say anything
abbrev pub saying : ℕ → LsaBody → Contents
saying ls_type contents key = if key.ls_type == ls_type then Some contents else None

abbrev pub silent : Contents
silent key = None

abbrev pub key : ℕ → Key
key ls_type = record { ls_type = ls_type; link_state_id = 1; advertising_router = 1 }

-- there was no LSA, and now there is only this one
pub record Comes (key : Key) (copy : DatabaseCopy) (old new : Database) : Type 0 where
  pub before : (k : Key) → finite.get old k ≡ None
  pub here : finite.get new key ≡ Some copy
  pub elsewhere : (k : Key) → k ≢ key → finite.get new k ≡ None

pub record WorkedTypes : Type 0 where
  -- those of the last type and of types before it count, and those of later types don't
  pub before : (b : LsaBody) → HaveSameContents (Some 2) silent (saying 1 b) → ⊥
  pub last : (b : LsaBody) → HaveSameContents (Some 2) silent (saying 2 b) → ⊥
  pub behind : (b : LsaBody) → HaveSameContents (Some 2) silent (saying 3 b)
  -- without a last type, all count
  pub every : (b : LsaBody) → HaveSameContents None silent (saying 5 b) → ⊥
  -- their bodies count, and whether one is removed
  pub other : (b c : LsaBody) → b ≢ c → HaveSameContents (Some 2) (saying 2 b) (saying 2 c) → ⊥
  pub leaves : (b : LsaBody) → HaveSameContents (Some 2) (saying 2 b) silent → ⊥
  pub same : (b : LsaBody) → HaveSameContents (Some 2) (saying 2 b) (saying 2 b)
  -- the same with copies, one of which is added between moments 100 and 110
  pub comes_before : (b : LsaBody) (old new : Database)
      → Comes (key 1) (copy b (pos 4) 10 105) old new → AreLsasUnchanged (Some 2) 100 110 old
      new → ⊥
  pub comes_last : (b : LsaBody) (old new : Database)
      → Comes (key 2) (copy b (pos 4) 10 105) old new → AreLsasUnchanged (Some 2) 100 110 old
      new → ⊥
  pub comes_behind : (b : LsaBody) (old new : Database)
      → Comes (key 3) (copy b (pos 4) 10 105) old new → AreLsasUnchanged (Some 2) 100 110 old new
  pub comes_anywhere : (b : LsaBody) (old new : Database)
      → Comes (key 5) (copy b (pos 4) 10 105) old new → AreLsasUnchanged None 100 110 old new → ⊥
