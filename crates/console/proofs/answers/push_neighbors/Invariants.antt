use Rattle.std.proofs.Common.{◌≡◌, ◌+◌, ◌++◌, drop, string_bytes}
use Rattle.console.specs.Answers.{neighbor_lines}
use Rattle.console.proofs.answers.push_neighbors.Given as goal

-- the text so far, and the lines of the remaining neighbors
abbrev pub invariant-loop-index : goal.invariant-loop-index
invariant-loop-index l = string_bytes l.text
    ++ neighbor_lines (l.index + 1) (drop l.index l.neighbors) ≡ string_bytes l.initial.text
    ++ neighbor_lines 1 l.neighbors
