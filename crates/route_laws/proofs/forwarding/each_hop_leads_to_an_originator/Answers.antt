use Rattle.route_laws.proofs.Outward.{to_an_originator}
use Rattle.route_laws.proofs.forwarding.each_hop_leads_to_an_originator.Goals as goal

pub returns : goal.returns
returns c = to_an_originator c.every_offer_has_a_candidate.ensures
