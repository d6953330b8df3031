use Rattle.agreement_laws.proofs.WorkedUpdates.{comes_twice}
use Rattle.agreement_laws.proofs.conversations.a_new_lsa_comes_twice.Goals as goal

pub returns : goal.returns
returns c = comes_twice
