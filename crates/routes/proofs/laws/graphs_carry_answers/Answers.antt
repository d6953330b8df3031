use Rattle.routes.proofs.Bridge.{carried}
use Rattle.routes.proofs.laws.graphs_carry_answers.Goals as goal

pub returns : goal.returns
returns c = carried
