use Rattle.agreement_laws.proofs.WorkedTicks.{tick_originates}
use Rattle.agreement_laws.proofs.conversations.a_tick_originates.Goals as goal

pub returns : goal.returns
returns c = tick_originates
