use Rattle.program_laws.proofs.SeatLaws.{grows}
use Rattle.program_laws.proofs.seats_grow.Goals as goal

pub returns : goal.returns
returns c = grows
