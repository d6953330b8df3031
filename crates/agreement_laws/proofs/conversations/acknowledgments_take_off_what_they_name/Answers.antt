use Rattle.agreement_laws.proofs.TakenOff.{taken_off_as_named}
use Rattle.agreement_laws.proofs.conversations.acknowledgments_take_off_what_they_name.Goals as goal

pub returns : goal.returns
returns c = taken_off_as_named
