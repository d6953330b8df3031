use Rattle.invariants.proofs.Acknowledged.{routers_stay_in_order}
use Rattle.invariants.proofs.laws.routers_stay_in_order.Goals as goal

pub returns : goal.returns
returns c = routers_stay_in_order
