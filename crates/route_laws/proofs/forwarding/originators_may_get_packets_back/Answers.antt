use Rattle.route_laws.proofs.Row.{back_to_originator}
use Rattle.route_laws.proofs.forwarding.originators_may_get_packets_back.Goals as goal

pub returns : goal.returns
returns c = back_to_originator
