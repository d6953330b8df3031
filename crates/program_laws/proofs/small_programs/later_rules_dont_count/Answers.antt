use Rattle.program_laws.proofs.RefusalLaws.{later_dont_count}
use Rattle.program_laws.proofs.small_programs.later_rules_dont_count.Goals as goal

pub returns : goal.returns
returns c = later_dont_count
