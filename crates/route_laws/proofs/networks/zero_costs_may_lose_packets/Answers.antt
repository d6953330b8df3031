use Rattle.route_laws.proofs.ZeroCosts.{zero_costs}
use Rattle.route_laws.proofs.networks.zero_costs_may_lose_packets.Goals as goal

pub returns : goal.returns
returns c = zero_costs
