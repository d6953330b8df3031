use Rattle.std.proofs.Common.{◌∙◌, ◌≡◌, ◌+◌, List, ap, arith, false, subst}
use Rattle.std.specs.Borrow.{Bor}
use Rattle.std.specs.Global.{Vec}
use Rattle.clap.specs.Walk.{Text}
use Rattle.hooktool_trials.proofs.StepWords.{lines_all, lines_more, wrong_at}
use Rattle.hooktool_trials.proofs.steps.read_lines.Goals as goal
use Rattle.hooktool_trials.specs.Steps.{AddsLine, is_blank, views}

pub loop-index-preserved : goal.loop-index-preserved
loop-index-preserved c =
    let index = c.loop-index.index in
    let words = c.index-lines-index.result in
    let same = ap views c.as_slice.ensures.value
    ∙ ap (λ (line : Vec (Bor Text)). views line.items) c.index-lines-index.is in
    lines_more c.args.lines.now index words c.loop-index.read.items c.push_line.new.read.items
    (omega (arith, c.loop-index-test.true)) c.loop-index.invariant
    (subst (λ (them : List Text). AddsLine (index + 1) them c.loop-index.read.items
    c.push_line.new.read.items) same c.in-Ok.ensures.added)

pub returns-in-Err-clause-wrong : goal.returns-in-Err-clause-wrong
returns-in-Err-clause-wrong c =
    let index = c.loop-index.index in
    let words = c.index-lines-index.result in
    let same = ap views c.as_slice.ensures.value
    ∙ ap (λ (line : Vec (Bor Text)). views line.items) c.index-lines-index.is in
    wrong_at c.args.lines.now index words c.in-Err.error (omega (arith, c.loop-index-test.true))
    (subst (λ (them : List Text). is_blank them ≡ false) same c.in-Err.ensures.wrong)

pub returns-clause-lines : goal.returns-clause-lines
returns-clause-lines c = lines_all c.args.lines.now c.loop-index.index c.loop-index.read.items
    (omega (arith, c.loop-index-test.false, c.loop-index.auto)) c.loop-index.invariant
