-- What is known of answers and of candidates.
use Rattle.std.proofs.Common.{◌≡◌, Bool, true, false, refl, List, Option, None, Some, subst, sym}
use Rattle.std.proofs.Common.{◌∙◌}
use Rattle.std.specs.Prelude.{IsTrue}
use Rattle.std.specs.List.{Contains}
use Rattle.std.proofs.lemmas.Option.{same_Some}
use Rattle.words.specs.declared.route.Route.{Route}
use Rattle.area_routes.specs.Kept.{HaveAnother, KnowsMatching}
use Rattle.area_routes.specs.declared.matching.Matching.TheVariants.{OnlyCandidates, Lacking}
use Rattle.kept_routes.specs.Placing.{AreAllAmong, HasAnother}
use Rattle.routes.specs.Candidates.{AreCandidates}
use Rattle.routes.specs.Contents.{Contents}
use Rattle.routes.specs.Tables.{RouteWords, IsStale}
use Rattle.routes.specs.declared.root.Root.{Root}
use Rattle.routes.specs.Comparisons.{IsComparison}
use Rattle.routes.specs.Parts.{LacksAnswers}
use Rattle.routes.specs.declared.shared.Comparison.{Comparison}

-- if some candidate has no answer, one of a list of just the candidates has none
pub found_lacking : (contents : Contents) (root : Root) (answers : RouteWords)
    (candidates : List Route) (found : Comparison) → AreCandidates contents root candidates
    → IsComparison answers candidates found → IsTrue found.lacks → LacksAnswers answers candidates
found_lacking contents root answers candidates found are is on =
    let stale : IsStale contents root answers = (is.lacks contents root are).0 on in
    (stale.0, (are.each stale.0).1 stale.1, stale.2)

-- if each answered route was a candidate, one that wasn't a candidate has no answer
pub another_lacks : (answers : RouteWords) (kept : Option (List Route)) (now : List Route)
    → HaveAnother kept now → KnowsMatching answers kept OnlyCandidates
    → KnowsMatching answers (Some now) Lacking
another_lacks answers None now another knows = absurd knows
another_lacks answers (Some before) now (r, among, none) knows =
    (r, among, λ answered. none (knows r answered))

-- if `none_new` is true only without a new route, it is false if there is one
pub another_is_new : (none_new : Bool) (before now : List Route)
    → (none_new ≡ true → AreAllAmong before now) → HasAnother before now → none_new ≡ false
another_is_new false before now among another = refl
another_is_new true before now among (r, is, none) = absurd (none (among refl r is))

-- no list has another route than itself
pub none_beside : (kept : Option (List Route)) (before now : List Route) → kept ≡ Some before
    → kept ≡ Some now → HasAnother before now → ⊥
none_beside kept before now were are (r, is, none) =
    none (subst (λ (xs : List Route). Contains xs r) (same_Some now before (sym are ∙ were)) is)
