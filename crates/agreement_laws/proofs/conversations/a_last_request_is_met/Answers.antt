use Rattle.agreement_laws.proofs.WorkedOwn.{last_request}
use Rattle.agreement_laws.proofs.conversations.a_last_request_is_met.Goals as goal

pub returns : goal.returns
returns c = last_request
