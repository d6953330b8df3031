use Rattle.std.proofs.Common.{◌∙◌, ap, true}
use Rattle.clap.specs.Simple.{App, app_of_fields}
use Rattle.hooktool_trials.proofs.arguments.without_commands.Goals as goal

pub returns : goal.returns
returns c =
    ap app_of_fields c.arg_required_else_help.ensures
    ∙ ap (λ f. app_of_fields (record f {
      arg_required_else_help = true;
    })) c.subcommand_required.ensures
    ∙ ap (λ (a : App). record {
      top = record a.top { subcommand_required = true; arg_required_else_help = true };
      subs = a.subs;
    })
    c.titled.ensures.app
