use Rattle.agreement_laws.proofs.RequestWalk.{accepted_is_requested}
use Rattle.agreement_laws.proofs.requests.what_is_accepted_is_requested.Goals as goal

pub returns : goal.returns
returns c = accepted_is_requested c.ranks_follow_the_comparison.ensures
