use Rattle.std.proofs.Common.{arith}
use Rattle.console.specs.Commands.{Asks}
use Rattle.console.proofs.Seen.{as_seen, none, seen}
use Rattle.console.proofs.command.command_of.Goals as goal

pub returns-in-len5 : goal.returns-in-len5
returns-in-len5 c = as_seen c.five.result Asks _ _ (seen c.args.words.now none 5 (omega arith))
    c.five.ensures
