use Rattle.agreement_laws.proofs.RequestWalk.{requests_stay}
use Rattle.agreement_laws.proofs.requests.requests_stay.Goals as goal

pub returns : goal.returns
returns c = requests_stay c.ranks_follow_the_comparison.ensures
