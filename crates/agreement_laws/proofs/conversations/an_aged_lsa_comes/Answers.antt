use Rattle.agreement_laws.proofs.WorkedAged.{aged_lsa_comes}
use Rattle.agreement_laws.proofs.conversations.an_aged_lsa_comes.Goals as goal

pub returns : goal.returns
returns c = aged_lsa_comes
