use Rattle.routes.proofs.Determined.{candidates}
use Rattle.routes.proofs.laws.candidates_are_determined.Goals as goal

pub returns : goal.returns
returns c = candidates
