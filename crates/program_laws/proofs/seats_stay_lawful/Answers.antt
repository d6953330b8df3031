use Rattle.program_laws.proofs.SeatLaws.{lawful_after}
use Rattle.program_laws.proofs.seats_stay_lawful.Goals as goal

pub returns : goal.returns
returns c = lawful_after
