use Rattle.agreement_laws.proofs.WorkedExchange.{exchange_as_slave}
use Rattle.agreement_laws.proofs.conversations.an_exchange_as_slave.Goals as goal

pub returns : goal.returns
returns c = exchange_as_slave
