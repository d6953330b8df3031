use Rattle.agreement_laws.proofs.SentInOrder.{sent_in_order}
use Rattle.agreement_laws.proofs.conversations.what_is_sent_stands_in_order.Goals as goal

pub returns : goal.returns
returns c = sent_in_order
