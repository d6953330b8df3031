use Rattle.route_laws.proofs.ThreeRouters.{worked}
use Rattle.route_laws.proofs.networks.worked_topology.Goals as goal

pub returns : goal.returns
returns c = worked
