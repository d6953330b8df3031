use Rattle.agreement_laws.proofs.HellosDiscarded.{hellos_are_discarded}
use Rattle.agreement_laws.proofs.conversations.some_hellos_are_discarded.Goals as goal

pub returns : goal.returns
returns c = hellos_are_discarded
