use Rattle.agreement_laws.proofs.RequestWalk.{requests_are_met}
use Rattle.agreement_laws.proofs.requests.requests_are_met.Goals as goal

pub returns : goal.returns
returns c = requests_are_met c.ranks_follow_the_comparison.ensures
