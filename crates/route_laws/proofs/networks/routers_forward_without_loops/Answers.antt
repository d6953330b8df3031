use Rattle.route_laws.proofs.Better.{without_loops}
use Rattle.route_laws.proofs.networks.routers_forward_without_loops.Goals as goal

pub returns : goal.returns
returns c = without_loops c.each_hop_leads_on.ensures
