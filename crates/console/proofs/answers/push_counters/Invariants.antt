use Rattle.std.proofs.Common.{◌≡◌, ◌++◌, drop, string_bytes}
use Rattle.console.specs.Answers.{counter_lines}
use Rattle.console.proofs.answers.push_counters.Given as goal

-- the text so far, and the lines of the remaining counters
abbrev pub invariant-loop-index : goal.invariant-loop-index
invariant-loop-index l = string_bytes l.text ++ counter_lines l.index (drop l.index l.sums)
    ≡ string_bytes l.initial.text ++ counter_lines 0 l.sums
