use Rattle.adjacency.proofs.Tables.{full_is_bare}
use Rattle.adjacency.proofs.laws.full_has_nothing_to_request.Goals as goal

pub returns : goal.returns
returns c = full_is_bare
