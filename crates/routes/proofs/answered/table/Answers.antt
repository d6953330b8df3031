use Rattle.std.proofs.Common.{subst}
use Rattle.routes.proofs.LetIn.{are_table, let_in_by}
use Rattle.routes.specs.Parts.{AreLetIn}
use Rattle.routes.specs.Tables.{RouteWords}
use Rattle.routes.proofs.answered.table.Goals as goal

pub returns-then-are_in_order : goal.returns-then-are_in_order
returns-then-are_in_order c = are_table c.args.answers.now c.args.candidates.now
    c.in_ok-table.table.items c.in_ok-table.ensures

pub returns : goal.returns
returns c =
    let table = c.in_ok-table-2.table.items in
    let of = subst (λ (made : RouteWords). AreLetIn made c.args.candidates.now table)
    c.deref.ensures.value c.in_ok-table-2.ensures in
    are_table c.args.answers.now c.args.candidates.now table
    (let_in_by c.in_ok-ordered.ordered.items c.args.answers.now c.args.candidates.now table
    c.in_ok-ordered.ensures.same of)
