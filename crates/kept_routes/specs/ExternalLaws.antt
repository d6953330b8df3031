-- What is unchanged while only AS-external-LSAs change (RFC 2328, section 16.6).
use Rattle.std.specs.Prelude.{Some, ◌↔◌}
use Rattle.candidates.specs.Inner.{AreInner}
use Rattle.candidates.specs.declared.inner.InnerRoutes.{InnerRoutes}
use Rattle.kept_routes.specs.Changes.{IsUntouched}
use Rattle.kept_routes.specs.Sameness.{HaveSameContents}
use Rattle.candidates.specs.Ways.{Ways}
use Rattle.routes.specs.Candidates.{IsCandidate}
use Rattle.routes.specs.Contents.{Contents}
use Rattle.routes.specs.declared.root.Root.{Root}
use Rattle.words.specs.declared.route.Route.{Route}

-- the results from the LSAs of types 1 to 4 remain valid while these say the same
abbrev pub InnerRoutesAreKept : Type 0
InnerRoutesAreKept =
    (old new : Contents) (root : Root) (ways : Ways) (inner : InnerRoutes)
    → HaveSameContents (Some 4) old new → AreInner old root ways inner → AreInner new root ways
    inner

-- and so does the candidate for a destination, if each AS-external-LSA that advertises or
-- advertised it says what it said
abbrev pub UntouchedCandidatesAreKept : Type 0
UntouchedCandidatesAreKept =
    (old new : Contents) (root : Root) (r : Route) → HaveSameContents (Some 4) old new
    → IsUntouched old new r.prefix → IsCandidate old root r ↔ IsCandidate new root r
