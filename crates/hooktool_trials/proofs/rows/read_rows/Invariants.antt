use Rattle.hooktool_trials.proofs.Listed.{HasRead}
use Rattle.hooktool_trials.proofs.rows.read_rows.Given as goal
use Rattle.hooktool_trials.specs.Words.{IsRow}

-- the rows of the words before the index are read
abbrev pub invariant-loop-word : goal.invariant-loop-word
invariant-loop-word l = HasRead IsRow l.words l.word-index l.rows.items
