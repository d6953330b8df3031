use Rattle.std.proofs.Common.{◌∙◌}
use Rattle.hooktool.proofs.Built.{told_more}
use Rattle.hooktool.proofs.testing.report_of.Goals as goal

pub returns-clause-refused : goal.returns-clause-refused
returns-clause-refused c = told_more _ _ c.told.result (λ report is. is ∙ c.is_any_wrong.ensures)
    c.told.ensures.refused
