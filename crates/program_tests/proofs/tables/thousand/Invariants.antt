use Rattle.std.proofs.Common.{◌≡◌}
use Rattle.program_tests.proofs.tables.thousand.Given as goal

-- the seat remains one of its table
abbrev pub invariant-loop-turn : goal.invariant-loop-turn
invariant-loop-turn l = l.seat.table ≡ l.fn.seat.table
