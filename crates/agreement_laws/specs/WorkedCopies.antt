-- Worked examples of what leaves a router's database.
use Rattle.std.specs.Prelude.{◌≡◌, ◌⊎◌, true, Some}
use Rattle.std.specs.FinMap as finite
use Rattle.words.specs.Constants.{max_age}
use Rattle.words.specs.Numbers.{Moment}
use Rattle.words.specs.declared.key.Key.{Key}
use Rattle.lsdb.specs.Copies.{DatabaseCopy}
use Rattle.lsdb.specs.declared.order.Instance.{Instance}
use Rattle.event_rules.specs.Routers.{Occurrence, Router}
use Rattle.agreement_laws.specs.CopiesClimb.{BecameOf, BringsNone, IsForeignAndAbsent}
use Rattle.agreement_laws.specs.Ranks.{is_at_least}

-- the router holds a copy of the key
pub record Holds (r : Router) (key : Key) : Type 0 where
  pub copy : DatabaseCopy
  pub there : finite.get r.area.database key ≡ Some copy

-- the copy that is held, which at MaxAge is at least as new as the instance
pub record HoldsAtMaxAge (r : Router) (key : Key) (instance : Instance) : Type 0 where
  pub copy : DatabaseCopy
  pub there : finite.get r.area.database key ≡ Some copy
  pub as_new : is_at_least (record {
    sequence = copy.lsa.header.sequence;
    checksum = copy.lsa.header.checksum;
    age = max_age;
  }) instance ≡ true

pub record WorkedCopies : Type 0 where
  -- an LSA of another router that wasn't held, and that the event doesn't bring, didn't leave
  pub absent : (old : Router) (moment : Moment) (event : Occurrence) (instance : Instance)
      (key : Key) (new : Router) → IsForeignAndAbsent old key → BringsNone event key
      → BecameOf old moment event instance key new → Holds new key
  -- what leaves at a Tick, of another router's LSAs, is the copy that was held
  pub tick : (old : Router) (moment : Moment) (instance : Instance) (key : Key) (new : Router)
      → (key.advertising_router ≡ old.id → ⊥)
      → BecameOf old moment Occurrence.Tick instance key new
      → Holds new key ⊎ HoldsAtMaxAge old key instance
