use Rattle.route_laws.proofs.Externals.{worked}
use Rattle.route_laws.proofs.worked_externals.Goals as goal

pub returns : goal.returns
returns c = worked
