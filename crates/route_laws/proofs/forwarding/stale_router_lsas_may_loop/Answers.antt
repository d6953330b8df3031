use Rattle.route_laws.proofs.Renumbered.{stale}
use Rattle.route_laws.proofs.forwarding.stale_router_lsas_may_loop.Goals as goal

pub returns : goal.returns
returns c = stale
