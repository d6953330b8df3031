use Rattle.agreement_laws.proofs.WorkedRun.{is_negotiated}
use Rattle.agreement_laws.proofs.conversations.an_adjacency_is_negotiated.Goals as goal

pub returns : goal.returns
returns c = is_negotiated
