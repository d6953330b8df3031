use Rattle.route_laws.proofs.Anew.{differing_databases}
use Rattle.route_laws.proofs.networks.differing_databases_may_loop.Goals as goal

pub returns : goal.returns
returns c = differing_databases
