use Rattle.invariants.proofs.Retransmitted.{retransmissions_are_of_the_database as all_of_it}
use Rattle.invariants.proofs.laws.retransmissions_are_of_the_database.Goals as goal

pub returns : goal.returns
returns c = all_of_it
