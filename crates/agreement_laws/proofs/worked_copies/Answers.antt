use Rattle.agreement_laws.proofs.WorkedCopies.{worked}
use Rattle.agreement_laws.proofs.worked_copies.Goals as goal

pub returns : goal.returns
returns c = worked
