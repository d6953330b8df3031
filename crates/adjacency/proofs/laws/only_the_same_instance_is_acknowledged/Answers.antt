use Rattle.adjacency.proofs.Tables.{only_the_same}
use Rattle.adjacency.proofs.laws.only_the_same_instance_is_acknowledged.Goals as goal

pub returns : goal.returns
returns c = only_the_same
