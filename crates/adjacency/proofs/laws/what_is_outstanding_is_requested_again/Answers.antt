use Rattle.adjacency.proofs.Outstanding.{requested_again}
use Rattle.adjacency.proofs.laws.what_is_outstanding_is_requested_again.Goals as goal

pub returns : goal.returns
returns c = requested_again
