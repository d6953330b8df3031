use Rattle.agreement_laws.proofs.WorkedUnannounced.{unannounced}
use Rattle.agreement_laws.proofs.conversations.what_is_not_announced_is_flushed.Goals as goal

pub returns : goal.returns
returns c = unannounced
