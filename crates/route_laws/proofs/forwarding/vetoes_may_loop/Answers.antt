use Rattle.route_laws.proofs.Row.{vetoes}
use Rattle.route_laws.proofs.forwarding.vetoes_may_loop.Goals as goal

pub returns : goal.returns
returns c = vetoes
