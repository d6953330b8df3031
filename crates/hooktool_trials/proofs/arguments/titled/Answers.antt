use Rattle.std.proofs.Common.{◌∙◌, ap, Bool}
use Rattle.clap.specs.Simple.{app_of_fields}
use Rattle.clap.specs.declared.builder.command.Command.{Command}
use Rattle.clap.specs.declared.builder.command.Command.TheOpen.{Command-F}
use Rattle.hooktool_trials.proofs.arguments.titled.Goals as goal

pub returns-clause-app : goal.returns-clause-app
returns-clause-app c = ap app_of_fields c.after_help.ensures ∙ ap app_of_fields c.about.ensures
    ∙ c.new.ensures.app

pub returns-clause-local : goal.returns-clause-local
returns-clause-local c =
    let globals : Command-F Command → Bool = λ f. f.has_globals in
    ap globals c.after_help.ensures ∙ ap globals c.about.ensures ∙ c.new.ensures.local
