use Rattle.routes.proofs.Determined.{ways}
use Rattle.routes.proofs.laws.ways_are_determined.Goals as goal

pub returns : goal.returns
returns c = ways
