use Rattle.route_laws.proofs.Square.{worked}
use Rattle.route_laws.proofs.worked_square.Goals as goal

pub returns : goal.returns
returns c = worked
