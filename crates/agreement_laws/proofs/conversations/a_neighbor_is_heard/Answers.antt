use Rattle.agreement_laws.proofs.WorkedHello.{is_heard_of}
use Rattle.agreement_laws.proofs.conversations.a_neighbor_is_heard.Goals as goal

pub returns : goal.returns
returns c = is_heard_of
