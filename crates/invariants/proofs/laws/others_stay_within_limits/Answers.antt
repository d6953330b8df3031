use Rattle.invariants.proofs.Limits.{others_stay_within_limits as stay_within}
use Rattle.invariants.proofs.laws.others_stay_within_limits.Goals as goal

pub returns : goal.returns
returns c = stay_within
