use Rattle.route_laws.proofs.OneWay.{boundary}
use Rattle.route_laws.proofs.boundary_ways_are_determined.Goals as goal

pub returns : goal.returns
returns c = boundary
