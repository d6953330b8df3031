use Rattle.program_laws.proofs.RunLaws.{loads_of_context}
use Rattle.program_laws.proofs.small_programs.loads_are_of_the_context.Goals as goal

pub returns : goal.returns
returns c = loads_of_context
