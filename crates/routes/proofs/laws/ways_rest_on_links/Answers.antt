use Rattle.routes.proofs.Carried.{carried}
use Rattle.routes.proofs.laws.ways_rest_on_links.Goals as goal

pub returns : goal.returns
returns c = carried
