use Rattle.commands.proofs.Worked.{asked, flag, help, missing, more, none, other_command}
use Rattle.commands.proofs.Worked.{raw_asks, run_asks, too_many, unknown}
use Rattle.commands.proofs.laws.worked_words.Goals as goal

pub returns : goal.returns
returns c = (
  help,
  too_many,
  none,
  unknown,
  other_command,
  missing,
  more,
  flag,
  asked,
  raw_asks,
  run_asks,
)
