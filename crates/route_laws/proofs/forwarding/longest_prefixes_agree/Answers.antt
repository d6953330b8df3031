use Rattle.route_laws.proofs.Longest.{prefixes_agree}
use Rattle.route_laws.proofs.forwarding.longest_prefixes_agree.Goals as goal

pub returns : goal.returns
returns c = prefixes_agree c.candidates_are_cheapest_walks.ensures
    c.every_offer_has_a_candidate.ensures
