use Rattle.std.proofs.Common.{List, arith, sym, subst, ◌+◌}
use Rattle.hooktool_trials.specs.declared.settings.Setting.{Setting}
use Rattle.hooktool_trials.proofs.Listed.{HasRead, read_all, read_more, read_wrong}
use Rattle.hooktool_trials.proofs.settings.read_settings.Goals as goal
use Rattle.hooktool_trials.specs.Words.{IsSetting}

pub returns-in_default : goal.returns-in_default
returns-in_default c = λ settings.
    read_wrong (IsSetting c.args.places c.args.most) c.args.words.now c.loop-word.word-index _
    c.loop-word.settings.items (omega (arith, c.loop-word-test.true)) c.in_default.ensures
    c.loop-word.invariant settings.items

pub loop-word-preserved : goal.loop-word-preserved
loop-word-preserved c =
    let more = read_more (IsSetting c.args.places c.args.most) c.args.words.now
    c.loop-word.word-index _ c.loop-word.settings.items c.in-Some.setting
    (omega (arith, c.loop-word-test.true)) c.in-Some.ensures c.loop-word.invariant in
    subst (λ (items : List Setting). HasRead (IsSetting c.args.places c.args.most) c.args.words.now
    (c.loop-word.word-index + 1) items) (sym c.in-Ok.ensures.items) more

pub returns : goal.returns
returns c = read_all (IsSetting c.args.places c.args.most) c.args.words.now c.loop-word.word-index
    c.loop-word.settings.items (omega (arith, c.loop-word-test.false, c.loop-word.auto))
    c.loop-word.invariant
