use Rattle.agreement_laws.proofs.CarriedOut.{carried_out}
use Rattle.agreement_laws.proofs.conversations.each_case_is_carried_out.Goals as goal

pub returns : goal.returns
returns c = carried_out
