use Rattle.machine.proofs.Least.{least_counts}
use Rattle.machine.proofs.laws.the_least_fault_counts.Goals as goal

pub returns : goal.returns
returns c = least_counts
