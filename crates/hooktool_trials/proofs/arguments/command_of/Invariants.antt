use Rattle.std.proofs.Common.{take}
use Rattle.hooktool_trials.proofs.Building.{HasWords}
use Rattle.hooktool_trials.proofs.arguments.command_of.Given as goal

-- the words before the index are in the command
abbrev pub invariant-loop-word : goal.invariant-loop-word
invariant-loop-word l = HasWords l.form.name.now (take l.word-index l.form.words.now) l.command
