use Rattle.std.proofs.Common.{subst, sym, ◌∙◌}
use Rattle.std.specs.Prelude.{IfOk}
use Rattle.routes.specs.Tables.{RouteWords}
use Rattle.routes.specs.Comparisons.{IsComparison}
use Rattle.routes.proofs.shared.compare.Goals as goal

pub returns-in-Some : goal.returns-in-Some
returns-in-Some c =
    subst (λ (l : RouteWords). IsComparison l c.args.candidates.now c.in-Some.found)
    (sym c.in-AllIn.ensures) c.in-Some.ensures

pub returns-in-Each : goal.returns-in-Each
returns-in-Each c =
    subst (λ (l : RouteWords). IfOk c.compare_each.result (IsComparison l c.args.candidates.now))
    c.in-Each.ensures c.compare_each.ensures

pub returns-in_ok-each-in-AllIn : goal.returns-in_ok-each-in-AllIn
returns-in_ok-each-in-AllIn c =
    subst (λ (l : RouteWords). IfOk c.compare_each-in-AllIn.result
    (IsComparison l c.args.candidates.now))
    (c.deref.ensures.value ∙ c.in_ok-each-in-AllIn.ensures) c.compare_each-in-AllIn.ensures
