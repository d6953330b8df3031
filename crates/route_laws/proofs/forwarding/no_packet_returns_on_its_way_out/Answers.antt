use Rattle.route_laws.proofs.Outward.{no_packet_out}
use Rattle.route_laws.proofs.forwarding.no_packet_returns_on_its_way_out.Goals as goal

pub returns : goal.returns
returns c = no_packet_out c.candidates_are_cheapest_walks.ensures
