use Rattle.route_laws.proofs.OneWay.{forwarding}
use Rattle.route_laws.proofs.forwarding_is_determined.Goals as goal

pub returns : goal.returns
returns c = forwarding
