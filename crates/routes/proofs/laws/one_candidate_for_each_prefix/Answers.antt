use Rattle.routes.proofs.Determined.{one_candidate}
use Rattle.routes.proofs.laws.one_candidate_for_each_prefix.Goals as goal

pub returns : goal.returns
returns c = one_candidate
