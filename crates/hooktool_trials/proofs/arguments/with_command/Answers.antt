use Rattle.hooktool_trials.proofs.Building.{each_added}
use Rattle.hooktool_trials.proofs.arguments.with_command.Goals as goal

pub returns-in-Ok : goal.returns-in-Ok
returns-in-Ok c = each_added c.args.line c.in-Ok.command c.args.form.now c.in-Ok.ensures
    c.subcommand.result c.subcommand.ensures
