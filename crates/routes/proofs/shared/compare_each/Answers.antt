use Rattle.std.proofs.Common.{List, subst, sym, ◌∙◌}
use mathlib.Core.Bool.{false≢true}
use Rattle.words.specs.declared.route.Route.{Route}
use Rattle.routes.specs.Candidates.{AreCandidates}
use Rattle.routes.proofs.shared.compare_each.Goals as goal

pub returns : goal.returns
returns c = record {
  lacks = λ contents root are.
      let same = c.deref.ensures.value ∙ c.in_ok-routes.ensures in
      c.in_ok-lacks.ensures contents root
      (subst (λ (rs : List Route). AreCandidates contents root rs) (sym same) are);
  only_candidates = λ on. absurd (false≢true on);
}
