use Rattle.route_laws.proofs.Defaults.{default_routes_are_no_end}
use Rattle.route_laws.proofs.networks.default_routes_are_no_end.Goals as goal

pub returns : goal.returns
returns c = default_routes_are_no_end
