use Rattle.std.proofs.Common.{List, arith, sym, subst, ◌+◌}
use Rattle.words.specs.declared.route.TableRow.{TableRow}
use Rattle.hooktool_trials.proofs.Listed.{HasRead, read_all, read_more, read_wrong}
use Rattle.hooktool_trials.proofs.rows.read_rows.Goals as goal
use Rattle.hooktool_trials.specs.Words.{IsRow}

pub returns-in_default : goal.returns-in_default
returns-in_default c = λ rows.
    read_wrong IsRow c.args.words.now c.loop-word.word-index _ c.loop-word.rows.items
    (omega (arith, c.loop-word-test.true)) c.in_default.ensures c.loop-word.invariant rows.items

pub loop-word-preserved : goal.loop-word-preserved
loop-word-preserved c =
    let more = read_more IsRow c.args.words.now c.loop-word.word-index _ c.loop-word.rows.items
    c.in-Some.row (omega (arith, c.loop-word-test.true)) c.in-Some.ensures c.loop-word.invariant
    in
    subst (λ (items : List TableRow). HasRead IsRow c.args.words.now (c.loop-word.word-index + 1)
    items) (sym c.in-Ok.ensures.items) more

pub returns : goal.returns
returns c = read_all IsRow c.args.words.now c.loop-word.word-index c.loop-word.rows.items
    (omega (arith, c.loop-word-test.false, c.loop-word.auto)) c.loop-word.invariant
