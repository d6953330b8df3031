-- AS-external-LSAs that don't change the candidates, whatever they say (RFC 2328, section 16.4).
use Rattle.std.specs.Prelude.{◌≡◌, ◌≢◌, ◌⊎◌, ◌≤◌, true, List, None, Some}
use Rattle.std.specs.FinMap as finite
use Rattle.std.specs.List.{Contains}
use Rattle.lsdb.specs.Copies.{Database}
use Rattle.candidates.specs.Borders.{IsFlagged}
use Rattle.routes.specs.Contents.{Contents, contents_at}
use Rattle.routes.specs.Summaries.{IsBoundaryWay}
use Rattle.routes.specs.declared.graph.Way.{Way}
use Rattle.routes.specs.Paths.{Way as WalkWay}
use Rattle.routes.specs.declared.root.Root.{Root}
use Rattle.candidates.specs.Reached.{way_in}
use Rattle.words.specs.Numbers.{Moment, RouterNumber}
use Rattle.words.specs.declared.key.Key.{Key}
use Rattle.kept_routes.specs.Ages.{HasNotJustAgedOut}
use Rattle.kept_routes.specs.Kept.{KeptWalk}
use Rattle.kept_routes.specs.Sameness.{IsLsaUnchanged, HaveSameContents}

-- the key of a summary-LSA for an AS boundary router with this Router ID
abbrev pub NamesIt : RouterNumber → Key → Type 0
NamesIt router key = (key.ls_type ≡ 4) × (key.link_state_id ≡ router)

-- the least such key
abbrev pub first_named : RouterNumber → Key
first_named router = record { ls_type = 4; link_state_id = router; advertising_router = 0 }

-- there is such a summary-LSA
abbrev pub IsNamed : Database → RouterNumber → Type 0
IsNamed db router =
    (key : Key) × (finite.contains_key db key ≡ true) × NamesIt router key

-- the walk doesn't reach the router as an AS boundary router, and no summary-LSA names it
pub record IsUnreached (moment : Moment) (db : Database) (walk : KeptWalk)
    (router : RouterNumber) : Type 0 where
  pub inside : (way : Way) → IsFlagged (contents_at moment db) (way_in walk.reached) router 2
      way → ⊥
  pub outside : IsNamed db router → ⊥

-- it is the router's own, or of a router that isn't reached
abbrev pub IsOfNoAccount : Moment → Database → KeptWalk → RouterNumber → Type 0
IsOfNoAccount moment db walk router =
    (router ≡ walk.root.router) ⊎ IsUnreached moment db walk router

-- an AS-external-LSA that offers nothing, whatever it says
pub record OffersNothing (moment : Moment) (db : Database) (walk : KeptWalk)
    (key : Key) : Type 0 where
  pub external : 5 ≤ key.ls_type
  pub of_no_account : IsOfNoAccount moment db walk key.advertising_router

-- all other LSAs are unchanged
abbrev pub AreOfferingLsasUnchanged : (before : Moment) → (moment : Moment) → (old : Database)
    → (new : Database) → KeptWalk → Type 0
AreOfferingLsasUnchanged before moment old new walk =
    (key : Key) → (OffersNothing moment new walk key → ⊥)
    → IsLsaUnchanged before moment (finite.get old key) (finite.get new key)

-- if the copy with this key counts and has MaxAge, it had it at the moment `before`
abbrev pub IsOldOrLeftOut : (before : Moment) → (moment : Moment) → Database → KeptWalk → Key
    → Type 0
IsOldOrLeftOut before moment db walk key =
    (OffersNothing moment db walk key → ⊥) → HasNotJustAgedOut None before moment db key

-- the same for each of these keys
abbrev pub AreOldOrLeftOut : (before : Moment) → (moment : Moment) → Database → KeptWalk
    → List Key → Type 0
AreOldOrLeftOut before moment db walk keys =
    (key : Key) → Contains keys key → IsOldOrLeftOut before moment db walk key

-- ---- what the LSAs say

-- the LSAs of types 1 to 4 say the same, and so does each AS-external-LSA of another router that is
-- reached
pub record OfferTheSame (old : Contents) (new : Contents) (root : Root) : Type 0 where
  pub inner : HaveSameContents (Some 4) old new
  pub outer : (key : Key) (way : WalkWay) → key.advertising_router ≢ root.router
      → IsBoundaryWay new root key.advertising_router way → old key ≡ new key
