use Rattle.kept_routes.proofs.ExternalsStaying.{untouched_kept}
use Rattle.kept_routes.proofs.external_laws.untouched_candidates_are_kept.Goals as goal

pub returns : goal.returns
returns c = untouched_kept
