-- What a test expects of answers.
use Rattle.std.specs.Prelude.{◌==◌, ◌%◌, ℕ, Bool, false, Ok, Err, nat_le, not}
use Rattle.isa.specs.declared.hook.Hook.{Hook}
use Rattle.isa.specs.declared.hook.Hook.TheVariants as hooks
use Rattle.interp.specs.Outcome.{trap_number}
use Rattle.word_machine.specs.declared.ending.Run.{Run}
use Rattle.interp.specs.declared.trap.Trap.{Trap}
use Rattle.std.specs.Prelude.{Result}
use Rattle.hooktool_trials.specs.declared.steps.ExpectedAnswer.{ExpectedAnswer}
use Rattle.hooktool_trials.specs.declared.steps.ExpectedAnswer.TheVariants as answers
use Rattle.hooktool_trials.specs.declared.runs.RunEnding.{RunEnding}
use Rattle.hooktool_trials.specs.declared.stage.Last.{Last}
use Rattle.hooktool_trials.specs.declared.stage.Last.TheVariants as lasts

-- The number that a program answered at its hook is what was expected: a metric below LSInfinity,
-- 16777215, or that a destination is withheld, by any from there on; a tag, by its low 32 bits;
-- that a route is installed, by 0, or isn't, by any other.
abbrev pub is_met : ExpectedAnswer → Hook → (answer : ℕ) → Bool
is_met (answers.Number n) hook answer = answer == n
is_met (answers.Metric n) hooks.Price answer = answer == n
is_met (answers.Metric n) _ answer = false
is_met answers.Withheld hooks.Price answer = nat_le 16777215 answer
is_met answers.Withheld _ answer = false
is_met (answers.Tag n) hooks.Tag answer = (answer % 4294967296) == n
is_met (answers.Tag n) _ answer = false
is_met answers.Installed hooks.Veto answer = answer == 0
is_met answers.Installed _ answer = false
is_met answers.NotInstalled hooks.Veto answer = not (answer == 0)
is_met answers.NotInstalled _ answer = false

abbrev pub meets : ExpectedAnswer → Last → Bool
meets expected (lasts.Answered hook answer) = is_met expected hook answer
meets expected lasts.Nothing = false
meets expected (lasts.Stuck trap slot) = false

-- how a run ended
abbrev pub last_by : Hook → Result Run Trap → (slot : ℕ) → Last
last_by hook (Ok run) slot = lasts.Answered hook run.answer
last_by hook (Err trap) slot = lasts.Stuck (trap_number trap) slot

abbrev pub last_of : Hook → RunEnding → Last
last_of hook ending = last_by hook ending.outcome ending.slot
