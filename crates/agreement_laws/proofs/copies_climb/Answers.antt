use Rattle.agreement_laws.proofs.Climbing.{copies_climb}
use Rattle.agreement_laws.proofs.copies_climb.Goals as goal

pub returns : goal.returns
returns c = copies_climb
