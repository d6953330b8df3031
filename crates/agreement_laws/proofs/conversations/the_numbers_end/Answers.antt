use Rattle.agreement_laws.proofs.WorkedFlush.{numbers_end}
use Rattle.agreement_laws.proofs.conversations.the_numbers_end.Goals as goal

pub returns : goal.returns
returns c = numbers_end
