use Rattle.std.proofs.Common.{subst, ◌∙◌}
use Rattle.std.specs.Prelude.{IfOk}
use Rattle.routes.specs.Candidates.{AreCandidates}
use Rattle.routes.specs.Contents.{Contents}
use Rattle.routes.specs.Tables.{RouteWords, IsTable}
use Rattle.routes.specs.declared.root.Root.{Root}
use Rattle.routes.proofs.shared.table_among.Goals as goal

pub returns-in-Each : goal.returns-in-Each
returns-in-Each c =
    subst (λ (l : RouteWords). IfOk c.table.result (λ table. (contents : Contents) (root : Root)
    → AreCandidates contents root c.args.candidates.now → IsTable contents root l table.items))
    c.in-Each.ensures c.table.ensures

pub returns-in_ok-each-in-AllIn : goal.returns-in_ok-each-in-AllIn
returns-in_ok-each-in-AllIn c =
    subst (λ (l : RouteWords). IfOk c.table-in-AllIn.result
    (λ table. (contents : Contents) (root : Root)
    → AreCandidates contents root c.args.candidates.now → IsTable contents root l table.items))
    (c.deref.ensures.value ∙ c.in_ok-each-in-AllIn.ensures) c.table-in-AllIn.ensures
