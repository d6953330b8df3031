use Rattle.agreement_laws.proofs.WorkedHistory.{met}
use Rattle.agreement_laws.proofs.a_history_meets_the_premises.Goals as goal

pub returns : goal.returns
returns c = met
