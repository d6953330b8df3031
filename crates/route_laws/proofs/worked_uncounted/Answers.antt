use Rattle.route_laws.proofs.Uncounted.{worked}
use Rattle.route_laws.proofs.worked_uncounted.Goals as goal

pub returns : goal.returns
returns c = worked
