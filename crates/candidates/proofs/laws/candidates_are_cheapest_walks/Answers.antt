use Rattle.candidates.proofs.CheapestWalks.{cheapest_walks}
use Rattle.candidates.proofs.laws.candidates_are_cheapest_walks.Goals as goal

pub returns : goal.returns
returns c = cheapest_walks
