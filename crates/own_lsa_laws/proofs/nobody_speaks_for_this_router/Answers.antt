use Rattle.own_lsa_laws.proofs.Runs.{nobody_speaks}
use Rattle.own_lsa_laws.proofs.nobody_speaks_for_this_router.Goals as goal

pub returns : goal.returns
returns c = nobody_speaks
