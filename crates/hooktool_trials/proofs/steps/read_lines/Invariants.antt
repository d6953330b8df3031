use Rattle.std.proofs.Common.{take}
use Rattle.hooktool_trials.specs.Steps.{AreLines, words_of}
use Rattle.hooktool_trials.proofs.steps.read_lines.Given as goal

-- the lines before the index are read
abbrev pub invariant-loop-index : goal.invariant-loop-index
invariant-loop-index l = AreLines 1 (words_of (take l.index l.lines)) l.read.items
