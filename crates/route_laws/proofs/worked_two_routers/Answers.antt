use Rattle.route_laws.proofs.TwoRouters.{worked}
use Rattle.route_laws.proofs.worked_two_routers.Goals as goal

pub returns : goal.returns
returns c = worked
