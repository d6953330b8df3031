use Rattle.console.proofs.Lines.{taken}
use Rattle.console.proofs.configuration.next_interface.Goals as goal

pub returns-then-is_taken : goal.returns-then-is_taken
returns-then-is_taken c = λ other s may.
    let found = rw c.in-Some.is at c.in_ok-found.ensures in
    taken _ c.args.line.now c.args.before.now other c.in-Some.found found (cc) s may
