use Rattle.std.proofs.Common.{arith}
use Rattle.hooktool_trials.proofs.Building.{command_more, line_with}
use Rattle.hooktool_trials.proofs.arguments.line_of.Goals as goal
use Rattle.hooktool_trials.specs.Building.{without_commands}

pub loop-form-preserved : goal.loop-form-preserved
loop-form-preserved c =
    command_more without_commands c.loop-form.line _ c.args.forms.now c.loop-form.form-index _
    (omega (arith, c.loop-form-test.true)) c.loop-form.invariant c.in-Ok.ensures

pub returns : goal.returns
returns c =
    line_with without_commands c.loop-form.line c.args.forms.now c.loop-form.form-index
    (omega (arith, c.loop-form-test.false, c.loop-form.auto)) c.loop-form.invariant
