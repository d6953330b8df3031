-- What a comparison of candidates with answers tells.
use Rattle.std.specs.Prelude.{◌↔◌, IsTrue, List}
use Rattle.words.specs.declared.route.Route.{Route}
use Rattle.routes.specs.Candidates.{AreCandidates}
use Rattle.routes.specs.Contents.{Contents}
use Rattle.routes.specs.Tables.{RouteWords, IsStale}
use Rattle.routes.specs.declared.root.Root.{Root}
use Rattle.routes.specs.Parts.{AreAnswersAmong}
use Rattle.routes.specs.declared.shared.Comparison.{Comparison}

-- `lacks` if and only if some candidate has no answer; if `only_candidates`, each answered route is
-- a candidate
pub record IsComparison (answers : RouteWords) (candidates : List Route) (found : Comparison) :
    Type 0
  where
    pub lacks : (contents : Contents) (root : Root) → AreCandidates contents root candidates
        → IsTrue found.lacks ↔ IsStale contents root answers
    pub only_candidates : IsTrue found.only_candidates → AreAnswersAmong answers candidates
