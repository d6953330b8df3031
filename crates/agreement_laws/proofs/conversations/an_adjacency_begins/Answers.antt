use Rattle.agreement_laws.proofs.WorkedAdjacency.{adjacency_begins}
use Rattle.agreement_laws.proofs.conversations.an_adjacency_begins.Goals as goal

pub returns : goal.returns
returns c = adjacency_begins
