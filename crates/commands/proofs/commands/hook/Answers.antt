use Rattle.std.proofs.Common.{◌∙◌, ap, codes}
use Rattle.clap.specs.declared.builder.value_parser.ValueParser.{ValueParser}
use Rattle.commands.specs.CommandLine.{checked_word}
use Rattle.commands.proofs.commands.hook.Goals as goal

pub returns-clause-rule : goal.returns-clause-rule
returns-clause-rule c =
    let names = c.hook_parser-parser.ensures in (
      names.0,
      names.1,
      names.2,
      names.3,
      names.4,
      names.5,
      c.checked.ensures.rule ∙ ap (λ (parser : ValueParser). checked_word (codes "HOOK") parser)
          names.6,
    )
