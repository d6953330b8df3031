use Rattle.std.proofs.Common.{◌≡◌, ◌≢◌, sym, ap, ◌∙◌}
use Rattle.interp.specs.Classes.{fault_of_target}
use Rattle.interp.proofs.Clean.{only_target}
use Rattle.interp.proofs.loads.load_stack.Goals as goal

pub returns-clause-ok : goal.returns-clause-ok
returns-clause-ok c =
    let other : c.args.target ≢ 10 = λ e. c.if-index-eq10.false (c.index.ensures.value ∙ e) in
    λ input. (c.in_ok-content.content, c.in_ok-content.ensures.ok input, other, c.fill.ensures)

pub returns-then-index-eq10-clause-err : goal.returns-then-index-eq10-clause-err
returns-then-index-eq10-clause-err c =
    let ten : c.args.target ≡ 10 = sym c.index.ensures.value ∙ c.if-index-eq10.true in
    only_target c.args.state.now c.args.size c.args.at c.args.target c.in_ok-content.content
    c.in_ok-content.ensures.ok ∙ ap fault_of_target ten
