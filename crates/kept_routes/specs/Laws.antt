-- What may be kept from one event to the next (RFC 2328, section 16).
use Rattle.std.specs.Prelude.{List, None, Some, ◌↔◌}
use Rattle.kept_routes.specs.Externals.{OfferTheSame}
use Rattle.kept_routes.specs.Kept.{IsWalkOf, KeptWalk}
use Rattle.kept_routes.specs.Sameness.{HaveSameContents}
use Rattle.routes.specs.Candidates.{AreCandidates}
use Rattle.routes.specs.Contents.{Contents}
use Rattle.routes.specs.Tables.{RouteWords, IsStale, IsTable}
use Rattle.routes.specs.declared.root.Root.{Root}
use Rattle.words.specs.declared.route.Route.{Route}

-- a walk remains valid while the router-LSAs and network-LSAs say the same, whatever others say
abbrev pub WalksAreKept : Type 0
WalksAreKept =
    (old new : Contents) (kept : KeptWalk) → HaveSameContents (Some 2) old new → IsWalkOf old kept
    → IsWalkOf new kept

-- while all LSAs say the same, candidates and table are unchanged, and nothing becomes stale
pub record RoutesAreKept : Type 0 where
  pub candidates : (old new : Contents) (root : Root) (routes : List Route)
      → HaveSameContents None old new
      → AreCandidates old root routes → AreCandidates new root routes
  pub table : (old new : Contents) (root : Root) (answers : RouteWords) (table : List Route)
      → HaveSameContents None old new → IsTable old root answers table → IsTable new root answers
      table
  pub stale : (old new : Contents) (root : Root) (answers : RouteWords)
      → HaveSameContents None old new
      → IsStale old root answers ↔ IsStale new root answers

-- and so they are while only AS-external-LSAs of the root or of unreached routers change (section
-- 16.4)
pub record CandidatesAreKept : Type 0 where
  pub candidates : (old new : Contents) (root : Root) (routes : List Route)
      → OfferTheSame old new root → AreCandidates old root routes → AreCandidates new root routes
  pub stale : (old new : Contents) (root : Root) (answers : RouteWords) → OfferTheSame old new root
      → IsStale old root answers ↔ IsStale new root answers
