use Rattle.route_laws.proofs.Row.{worked}
use Rattle.route_laws.proofs.forwarding.worked_row.Goals as goal

pub returns : goal.returns
returns c = worked
