use Rattle.agreement_laws.proofs.Runs.{held_was_exchanged}
use Rattle.agreement_laws.proofs.what_is_held_was_exchanged.Goals as goal

pub returns : goal.returns
returns c = held_was_exchanged
