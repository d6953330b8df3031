use Rattle.agreement_laws.proofs.Done.{nothing_is_left}
use Rattle.agreement_laws.proofs.nothing_is_left_to_describe.Goals as goal

pub returns : goal.returns
returns c = nothing_is_left
