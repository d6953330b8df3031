use Rattle.event_rules.proofs.Clocks.{clocks_run_on}
use Rattle.event_rules.proofs.router_runs.routers_refuse_clocks_that_go_back.Goals as goal

pub returns : goal.returns
returns c = clocks_run_on
