use Rattle.agreement_laws.proofs.WorkedExchanges.{worked}
use Rattle.agreement_laws.proofs.worked_exchanges.Goals as goal

pub returns : goal.returns
returns c = worked
