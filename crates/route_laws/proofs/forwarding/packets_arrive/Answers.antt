use Rattle.route_laws.proofs.Arrived.{arrive}
use Rattle.route_laws.proofs.forwarding.packets_arrive.Goals as goal

pub returns : goal.returns
returns c = arrive c.candidates_are_cheapest_walks.ensures c.every_offer_has_a_candidate.ensures
