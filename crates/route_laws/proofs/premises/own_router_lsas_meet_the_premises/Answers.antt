use Rattle.route_laws.proofs.Own.{premises}
use Rattle.route_laws.proofs.premises.own_router_lsas_meet_the_premises.Goals as goal

pub returns : goal.returns
returns c = premises
