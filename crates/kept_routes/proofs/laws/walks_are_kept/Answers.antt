use Rattle.kept_routes.proofs.KeptLaws.{walks_kept}
use Rattle.kept_routes.proofs.laws.walks_are_kept.Goals as goal

pub returns : goal.returns
returns c = walks_kept
