use Rattle.route_laws.proofs.Transit.{worked}
use Rattle.route_laws.proofs.worked_transit.Goals as goal

pub returns : goal.returns
returns c = worked
