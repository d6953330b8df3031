-- What is known of kept routes after an event.
use Rattle.std.proofs.Common.{◌≡◌, false, sym, subst, ◌∙◌}
use mathlib.Core.Bool.{false≢true}
use Rattle.std.specs.Prelude.{List, Some}
use Rattle.words.specs.declared.route.Route.{Route}
use Rattle.kept_routes.specs.Kept.{IsWalkOf}
use Rattle.routes.specs.Candidates.{AreCandidates}
use Rattle.routes.specs.Contents.{Contents}
use Rattle.routes.specs.Tables.{RouteWords, IsStale}
use Rattle.routes.specs.declared.root.Root.{Root}
use Rattle.area_routes.specs.Kept.{KeptRoutes, KnowsAnswered, KnowsCandidates, KnowsInner}
use Rattle.area_routes.specs.Kept.{KnowsMatching, KnowsWalk}
use Rattle.area_routes.specs.declared.matching.Matching.{Matching}
use Rattle.area_routes.specs.declared.matching.Matching.TheVariants.{Unknown}
use Rattle.area_routes.proofs.Candidates.{carried, inner_carried}
use Rattle.kept_routes.specs.ExternalLaws.{InnerRoutesAreKept}
use Rattle.kept_routes.specs.Sameness.{HaveSameContents}

-- nothing is known of answers if none are known to exist
pub unanswered : (contents : Contents) (root : Root) (answers : RouteWords) (kept : KeptRoutes)
    → kept.answered ≡ false → KnowsAnswered contents root answers kept
unanswered contents root answers kept is on = absurd (false≢true (sym is ∙ on))

-- nor of candidates and answers where nothing is known of these
pub unmatched : (answers : RouteWords) (kept : KeptRoutes) → kept.matching ≡ Unknown
    → KnowsMatching answers kept.candidates kept.matching
unmatched answers kept is =
    subst (λ (m : Matching). KnowsMatching answers kept.candidates m) (sym is) tt

module _ (old new : Contents) (was is : Root) (kept : KeptRoutes) (serves : kept.behind ≡ false)
    (begins : kept.walk.root ≡ is) (knew : KnowsWalk old was kept) where
  same_root : was ≡ is
  same_root = sym (knew.root serves) ∙ begins

  -- a walk that is still valid
  pub still_walks : (IsWalkOf old kept.walk → IsWalkOf new kept.walk) → KnowsWalk new is kept
  still_walks goes_on = record { walk = λ on. goes_on (knew.walk serves); root = λ on. begins }

  -- candidates that are still valid
  pub still_offers : ((routes : List Route) → AreCandidates old was routes
      → AreCandidates new was routes) → KnowsCandidates old was kept → KnowsCandidates new is kept
  still_offers goes_on knows =
      subst (λ root. KnowsCandidates new root kept) same_root
      (carried (λ routes. AreCandidates old was routes) (λ routes. AreCandidates new was routes)
      goes_on kept.candidates knows)

  -- the results from the LSAs of types 1 to 4, if these say the same
  pub still_inner : InnerRoutesAreKept → HaveSameContents (Some 4) old new → KnowsInner old was kept
      → KnowsInner new is kept
  still_inner law same knows =
      subst (λ root. KnowsInner new root kept) same_root
      (inner_carried law old new was kept.walk same kept.inner knows)

  -- answers that are still complete
  pub still_answered : (answers : RouteWords) → (IsStale new was answers → IsStale old was answers)
      → KnowsAnswered old was answers kept → KnowsAnswered new is answers kept
  still_answered answers back knows =
      subst (λ root. KnowsAnswered new root answers kept) same_root
      (λ on stale. knows on (back stale))
