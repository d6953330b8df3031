use Rattle.machine.proofs.Stacks.{runs_go_on}
use Rattle.machine.proofs.laws.a_run_goes_on_until_it_ends.Goals as goal

pub returns : goal.returns
returns c = runs_go_on
