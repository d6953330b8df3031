use Rattle.invariants.proofs.Always.{full_request_nothing}
use Rattle.invariants.proofs.laws.full_neighbors_request_nothing.Goals as goal

pub returns : goal.returns
returns c = full_request_nothing
