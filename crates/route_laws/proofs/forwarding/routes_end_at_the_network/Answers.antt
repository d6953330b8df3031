use Rattle.route_laws.proofs.Nearer.{last_hop}
use Rattle.route_laws.proofs.forwarding.routes_end_at_the_network.Goals as goal

pub returns : goal.returns
returns c = last_hop c.candidates_are_cheapest_walks.ensures
