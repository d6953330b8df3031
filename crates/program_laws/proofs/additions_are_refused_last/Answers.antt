use Rattle.program_laws.proofs.SeatLaws.{refused_last}
use Rattle.program_laws.proofs.additions_are_refused_last.Goals as goal

pub returns : goal.returns
returns c = refused_last
