use Rattle.std.proofs.Common.{◌≡◌, ◌+◌, ◌++◌, drop, string_bytes}
use Rattle.commands.specs.RawRuns.{seat_lines}
use Rattle.commands.proofs.raw.push_outcomes.Given as goal

-- what is written so far, and the lines of the seats that are left
abbrev pub invariant-loop-index : goal.invariant-loop-index
invariant-loop-index l = string_bytes l.text ++ seat_lines (l.index + 1) (drop l.index l.finished)
    ≡ string_bytes l.initial.text ++ seat_lines 1 l.finished
