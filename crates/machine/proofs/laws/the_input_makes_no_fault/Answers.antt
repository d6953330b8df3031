use Rattle.machine.proofs.IgnoresInput.{fault_without_input}
use Rattle.machine.proofs.laws.the_input_makes_no_fault.Goals as goal

pub returns : goal.returns
returns c = fault_without_input
