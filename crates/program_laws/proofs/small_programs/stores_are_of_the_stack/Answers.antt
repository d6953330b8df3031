use Rattle.program_laws.proofs.RunLaws.{stores_on_its_stack}
use Rattle.program_laws.proofs.small_programs.stores_are_of_the_stack.Goals as goal

pub returns : goal.returns
returns c = stores_on_its_stack
