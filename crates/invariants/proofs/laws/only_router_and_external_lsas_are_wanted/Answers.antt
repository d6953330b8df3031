use Rattle.invariants.proofs.OwnLsas.{only_router_and_external_lsas}
use Rattle.invariants.proofs.laws.only_router_and_external_lsas_are_wanted.Goals as goal

pub returns : goal.returns
returns c = only_router_and_external_lsas
