use Rattle.route_laws.proofs.Found.{each_is_nearer}
use Rattle.route_laws.proofs.forwarding.each_hop_is_nearer.Goals as goal

pub returns : goal.returns
returns c = each_is_nearer c.candidates_are_cheapest_walks.ensures
    c.every_offer_has_a_candidate.ensures
