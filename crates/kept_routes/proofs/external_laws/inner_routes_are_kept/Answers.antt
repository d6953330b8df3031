use Rattle.kept_routes.proofs.ExternalsStaying.{inner_kept}
use Rattle.kept_routes.proofs.external_laws.inner_routes_are_kept.Goals as goal

pub returns : goal.returns
returns c = inner_kept
