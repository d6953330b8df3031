use Rattle.std.proofs.Common.{List, subst, sym, ◌∙◌}
use Rattle.words.specs.declared.route.Route.{Route}
use Rattle.routes.specs.Candidates.{AreCandidates}
use Rattle.routes.proofs.shared.table_of.Goals as goal

pub returns : goal.returns
returns c contents root are =
    let routes = c.deref.ensures.value ∙ c.in_ok-routes.ensures in
    c.in_ok-made.ensures contents root (subst (λ (rs : List Route). AreCandidates contents root rs)
    (sym routes) are)
