use Rattle.agreement_laws.proofs.RequestsMet.{requests_met}
use Rattle.agreement_laws.proofs.conversations.requests_are_met_by_flooding.Goals as goal

pub returns : goal.returns
returns c = requests_met
