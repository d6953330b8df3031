use Rattle.hooktool_trials.proofs.Listed.{HasRead}
use Rattle.hooktool_trials.proofs.settings.read_settings.Given as goal
use Rattle.hooktool_trials.specs.Words.{IsSetting}

-- the settings of the words before the index are read
abbrev pub invariant-loop-word : goal.invariant-loop-word
invariant-loop-word l = HasRead (IsSetting l.places l.most) l.words l.word-index l.settings.items
