use Rattle.program_laws.proofs.RunLaws.{later_as_stated}
use Rattle.program_laws.proofs.small_programs.later_slots_are_as_stated.Goals as goal

pub returns : goal.returns
returns g c = λ hook. later_as_stated g.D.Domain.contains g.D.Domain.stated_gives hook
