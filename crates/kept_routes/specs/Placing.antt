-- Routes in the order of their prefixes, of which one is replaced.
use Rattle.std.specs.Prelude.{◌≡◌, ◌↔◌, ◌⊎◌, ℕ, ◌<◌, ◌≤◌, List, Option, Some, length}
use Rattle.std.specs.Prelude.{slice_index_or}
use Rattle.std.specs.List.{Contains}
use Rattle.candidates.specs.Borders.{Ascend}
use Rattle.routes.specs.Candidates.{IsCandidate}
use Rattle.routes.specs.Routes.{IsBefore}
use Rattle.routes.specs.Contents.{Contents}
use Rattle.routes.specs.declared.root.Root.{Root}
use Rattle.words.specs.Prefixes.{Network}
use Rattle.words.specs.declared.route.Route.{Route}

-- the route at this index is for the prefix
pub record IsThere (routes : List Route) (prefix : Network) (at : ℕ) : Type 0 where
  pub within : at < length routes
  pub is_for : (d : Route) → (slice_index_or routes at d).prefix ≡ prefix

-- the routes before this index are for earlier prefixes, and the others for later ones
pub record IsGap (routes : List Route) (prefix : Network) (at : ℕ) : Type 0 where
  pub within : at ≤ length routes
  pub before : (k : ℕ) (d : Route) → k < at → IsBefore (slice_index_or routes k d).prefix prefix
  pub behind : (k : ℕ) (d : Route) → at ≤ k → k < length routes
      → IsBefore prefix (slice_index_or routes k d).prefix

-- the route for the prefix is removed, and this one inserted, if there is one
pub record IsPlaced (old : List Route) (new : List Route) (prefix : Network)
    (best : Option Route) : Type 0 where
  pub each : (r : Route) → Contains new r
      ↔ ((Contains old r × (r.prefix ≡ prefix → ⊥)) ⊎ (best ≡ Some r))
  pub ascending : Ascend new

-- there is no such route, or it was among these
abbrev pub HasStood : (old : List Route) → Option Route → Type 0
HasStood old best = (r : Route) → best ≡ Some r → Contains old r

-- there is one, and it wasn't among these
abbrev pub IsAnother : (old : List Route) → Option Route → Type 0
IsAnother old best = (r : Route) × (best ≡ Some r) × (Contains old r → ⊥)

-- each of the new ones is one of the old ones
abbrev pub AreAllAmong : (old : List Route) → (new : List Route) → Type 0
AreAllAmong old new = (r : Route) → Contains new r → Contains old r

-- at least one of the new ones isn't among the old ones
abbrev pub HasAnother : (old : List Route) → (new : List Route) → Type 0
HasAnother old new = (r : Route) × Contains new r × (Contains old r → ⊥)

-- the candidate for the destination isn't among the old ones
abbrev pub HasAnotherTo : Contents → Root → Network → (old : List Route) → Type 0
HasAnotherTo contents root prefix old =
    (r : Route) × IsCandidate contents root r × (r.prefix ≡ prefix) × (Contains old r → ⊥)

-- the route for the prefix is removed, and the current candidate for it inserted
pub record IsRenewed (contents : Contents) (root : Root) (prefix : Network) (old : List Route)
    (new : List Route) : Type 0 where
  pub each : (r : Route) → Contains new r
      ↔ ((Contains old r × (r.prefix ≡ prefix → ⊥)) ⊎ (IsCandidate contents root r
      × (r.prefix ≡ prefix)))
  pub ascending : Ascend new

-- a current candidate for one of these destinations, or an old one for any other
abbrev pub IsEither : (old : Contents) → (new : Contents) → Root → (done : List Network) → Route
    → Type 0
IsEither old new root done r =
    (Contains done r.prefix × IsCandidate new root r)
    ⊎ ((Contains done r.prefix → ⊥) × IsCandidate old root r)

-- the old candidates, except that those for these destinations are current
pub record AreHalfway (old : Contents) (new : Contents) (root : Root) (done : List Network)
    (routes : List Route) : Type 0 where
  pub each : (r : Route) → Contains routes r ↔ IsEither old new root done r
  pub ascending : Ascend routes
