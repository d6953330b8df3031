use Rattle.agreement_laws.proofs.WorkedRanks.{worked}
use Rattle.agreement_laws.proofs.worked_ranks.Goals as goal

pub returns : goal.returns
returns c = worked
