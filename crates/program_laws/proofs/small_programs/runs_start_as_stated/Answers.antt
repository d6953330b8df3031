use Rattle.program_laws.proofs.RunLaws.{starts_as_stated}
use Rattle.program_laws.proofs.small_programs.runs_start_as_stated.Goals as goal

pub returns : goal.returns
returns g c = λ hook. starts_as_stated g.D.Domain.contains g.D.Domain.stated_gives hook
