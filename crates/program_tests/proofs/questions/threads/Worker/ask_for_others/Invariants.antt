use Rattle.std.proofs.Common.{◌≡◌}
use Rattle.hooks.specs.Known.{asker_history}
use Rattle.program_tests.proofs.questions.threads.Worker.ask_for_others.Given as goal

-- the asker's history and the seat's table are unchanged
abbrev pub invariant-loop-turn : goal.invariant-loop-turn
invariant-loop-turn l = (asker_history l.self.asker ≡ asker_history l.fn.self.asker)
    × (l.self.seat.table ≡ l.fn.self.seat.table)
