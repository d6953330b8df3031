use Rattle.route_laws.proofs.Everywhere.{all_arrive}
use Rattle.route_laws.proofs.forwarding.all_packets_arrive.Goals as goal

pub returns : goal.returns
returns c = all_arrive c.candidates_are_cheapest_walks.ensures c.every_offer_has_a_candidate.ensures
