use Rattle.program_laws.proofs.RefusalLaws.{named_aptly}
use Rattle.program_laws.proofs.small_programs.helpers_and_the_bound_are_checked.Goals as goal

pub returns : goal.returns
returns c = named_aptly
