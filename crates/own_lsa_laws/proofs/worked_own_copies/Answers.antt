use Rattle.own_lsa_laws.proofs.Worked.{worked}
use Rattle.own_lsa_laws.proofs.worked_own_copies.Goals as goal

pub returns : goal.returns
returns c = worked
