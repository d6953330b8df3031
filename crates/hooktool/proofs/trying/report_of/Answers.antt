use Rattle.std.proofs.Common.{◌∙◌, ap}
use Rattle.std.specs.List.{list_any}
use Rattle.std.specs.Prelude.{is_err}
use Rattle.hooktool.proofs.Built.{told_more}
use Rattle.hooktool.proofs.trying.report_of.Goals as goal
use Rattle.hooktool_trials.specs.declared.runs.RunEnding.{RunEnding}

pub returns-clause-stuck : goal.returns-clause-stuck
returns-clause-stuck c = told_more _ _ c.told.result (λ report is. is ∙ (c.is_any_stuck.ensures
    ∙ ap (list_any (λ (ending : RunEnding). is_err ending.outcome)) c.deref.ensures.value))
    c.told.ensures.refused
