use Rattle.agreement_laws.proofs.WorkedNeighbors.{worked}
use Rattle.agreement_laws.proofs.worked_neighbors.Goals as goal

pub returns : goal.returns
returns c = worked
