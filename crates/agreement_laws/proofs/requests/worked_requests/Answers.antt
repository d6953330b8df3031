use Rattle.agreement_laws.proofs.WorkedRequests.{worked}
use Rattle.agreement_laws.proofs.requests.worked_requests.Goals as goal

pub returns : goal.returns
returns c = worked
