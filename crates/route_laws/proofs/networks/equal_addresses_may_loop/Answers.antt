use Rattle.route_laws.proofs.Equal.{equal_addresses}
use Rattle.route_laws.proofs.networks.equal_addresses_may_loop.Goals as goal

pub returns : goal.returns
returns c = equal_addresses
