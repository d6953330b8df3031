use Rattle.kept_routes.proofs.Staying.{candidates_kept}
use Rattle.kept_routes.proofs.laws.candidates_are_kept.Goals as goal

pub returns : goal.returns
returns c = candidates_kept
