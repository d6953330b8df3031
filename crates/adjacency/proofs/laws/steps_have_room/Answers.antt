use Rattle.adjacency.proofs.Roomy.{steps_roomy}
use Rattle.adjacency.proofs.laws.steps_have_room.Goals as goal

pub returns : goal.returns
returns c = steps_roomy
