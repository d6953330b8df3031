use Rattle.std.proofs.Common.{arith}
use Rattle.hooktool_trials.proofs.Building.{leaf, one_more}
use Rattle.hooktool_trials.proofs.arguments.command_of.Goals as goal

pub loop-word-init : goal.loop-word-init
loop-word-init c = record {
  app = c.titled-command.ensures.app;
  local = c.titled-command.ensures.local;
}

pub loop-word-preserved : goal.loop-word-preserved
loop-word-preserved c =
    one_more c.args.form.now.name.now c.loop-word.command c.argument.result _
    c.args.form.now.words.now c.loop-word.word-index _ (omega (arith, c.loop-word-test.true))
    c.argument.ensures.local c.argument.ensures.rule c.loop-word.invariant c.in-Ok.ensures

pub returns : goal.returns
returns c =
    leaf c.args.form.now c.loop-word.command c.loop-word.word-index
    (omega (arith, c.loop-word-test.false, c.loop-word.auto)) c.loop-word.invariant
