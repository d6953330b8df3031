use Rattle.agreement_laws.proofs.Worked.{worked}
use Rattle.agreement_laws.proofs.conversations.worked_events.Goals as goal

pub returns : goal.returns
returns c = worked
