use Rattle.std.proofs.Common.{◌≡◌, true, false, arith, sym, ◌∙◌}
use Rattle.std.proofs.lemmas.Bool.{not-true}
use Rattle.routes.proofs.KeptOut.{at_first, behind_another}
use Rattle.routes.proofs.lookups.is_first_and_keeps_out.Goals as goal

pub returns-then-at-eq0-clause-out : goal.returns-then-at-eq0-clause-out
returns-then-at-eq0-clause-out c t =
    at_first c.args.answers.now c.requires c.args.route.now c.args.at c.index-answers-at.result
    (omega (arith, c.if-at-answers.false)) c.index-answers-at.is
    (c.keeps_out.ensures.0 c.if-not-keeps_out.false) (omega (arith, c.if-at-eq0.true))

pub returns-else-at-eq0-clause-out : goal.returns-else-at-eq0-clause-out
returns-else-at-eq0-clause-out c t =
    behind_another c.args.answers.now c.requires c.args.route.now c.args.at
    c.index-answers-at.result
    (omega (arith, c.if-at-answers.false)) c.index-answers-at.is
    (c.keeps_out.ensures.0 c.if-not-keeps_out.false) c.index-answers-at-else-at-eq0.result
    c.index-answers-at-else-at-eq0.is
    (λ same. absurd (let no : true ≡ false = sym (c.is_of.ensures.1 same)
    ∙ not-true c.is_of.result t in cc))
