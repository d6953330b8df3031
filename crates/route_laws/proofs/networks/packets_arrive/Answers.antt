use Rattle.route_laws.proofs.Delivered.{arrive}
use Rattle.route_laws.proofs.networks.packets_arrive.Goals as goal

pub returns : goal.returns
returns c = arrive c.own_router_lsas_meet_the_premises.ensures c.every_offer_has_a_candidate.ensures
    c.candidates_are_cheapest_walks.ensures c.each_hop_is_nearer.ensures
    c.each_hop_leads_to_an_originator.ensures c.routes_end_at_the_network.ensures
    c.each_hop_leads_on.ensures
