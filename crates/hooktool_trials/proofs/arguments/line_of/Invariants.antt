use Rattle.std.proofs.Common.{◌≡◌, take}
use Rattle.clap.specs.Simple.{app_of}
use Rattle.hooktool_trials.proofs.arguments.line_of.Given as goal
use Rattle.hooktool_trials.specs.Building.{with_forms, without_commands}

-- the commands of the forms before the index are in the line
abbrev pub invariant-loop-form : goal.invariant-loop-form
invariant-loop-form l = app_of l.line ≡ with_forms without_commands (take l.form-index l.forms)
