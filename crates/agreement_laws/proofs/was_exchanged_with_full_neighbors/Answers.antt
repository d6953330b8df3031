use Rattle.agreement_laws.proofs.Runs.{exchanged_with_full}
use Rattle.agreement_laws.proofs.was_exchanged_with_full_neighbors.Goals as goal

pub returns : goal.returns
returns c = exchanged_with_full
