use Rattle.received.proofs.Examined.{examined}
use Rattle.received.proofs.laws.flooding_examines_each_neighbor.Goals as goal

pub returns : goal.returns
returns c = examined
