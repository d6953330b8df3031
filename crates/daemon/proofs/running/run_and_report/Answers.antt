use Rattle.daemon.proofs.Ended.{ends_so}
use Rattle.daemon.proofs.running.run_and_report.Goals as goal

pub returns-clause-ends : goal.returns-clause-ends
returns-clause-ends g c =
    ends_so _ c.args.text.now c.run_router-outcome.result c.report.result
    c.run_router-outcome.ensures.ran c.run_router-outcome.ensures.refused c.report.ensures.ran
    c.report.ensures.refused
