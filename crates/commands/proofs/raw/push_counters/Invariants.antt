use Rattle.std.proofs.Common.{◌≡◌, ◌++◌, drop, string_bytes}
use Rattle.commands.specs.RawRuns.{counter_lines}
use Rattle.commands.proofs.raw.push_counters.Given as goal

-- what is written so far, and the lines of the counters that are left
abbrev pub invariant-loop-index : goal.invariant-loop-index
invariant-loop-index l = string_bytes l.text ++ counter_lines l.index (drop l.index l.sums)
    ≡ string_bytes l.initial.text ++ counter_lines 0 l.sums
