use Rattle.route_laws.proofs.Passed.{no_packet}
use Rattle.route_laws.proofs.forwarding.no_packet_returns.Goals as goal

pub returns : goal.returns
returns c = no_packet c.candidates_are_cheapest_walks.ensures
