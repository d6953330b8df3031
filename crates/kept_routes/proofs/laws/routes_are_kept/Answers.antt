use Rattle.kept_routes.proofs.KeptLaws.{routes_kept}
use Rattle.kept_routes.proofs.laws.routes_are_kept.Goals as goal

pub returns : goal.returns
returns c = routes_kept
