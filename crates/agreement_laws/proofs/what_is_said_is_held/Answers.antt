use Rattle.agreement_laws.proofs.SaidWalk.{said_is_held}
use Rattle.agreement_laws.proofs.what_is_said_is_held.Goals as goal

pub returns : goal.returns
returns c = said_is_held
