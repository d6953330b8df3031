use Rattle.route_laws.proofs.ThreeRouters.{crossed_links}
use Rattle.route_laws.proofs.networks.crossed_links_may_loop.Goals as goal

pub returns : goal.returns
returns c = crossed_links
