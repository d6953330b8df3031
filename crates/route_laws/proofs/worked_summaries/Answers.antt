use Rattle.route_laws.proofs.Summaries.{worked}
use Rattle.route_laws.proofs.worked_summaries.Goals as goal

pub returns : goal.returns
returns c = worked
