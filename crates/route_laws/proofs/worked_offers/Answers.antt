use Rattle.route_laws.proofs.TwoOffers.{worked}
use Rattle.route_laws.proofs.worked_offers.Goals as goal

pub returns : goal.returns
returns c = worked
