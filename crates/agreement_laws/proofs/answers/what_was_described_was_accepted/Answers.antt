use Rattle.agreement_laws.proofs.BothDone.{was_accepted}
use Rattle.agreement_laws.proofs.answers.what_was_described_was_accepted.Goals as goal

pub returns : goal.returns
returns c = was_accepted c.descriptions_are_answered.ensures
