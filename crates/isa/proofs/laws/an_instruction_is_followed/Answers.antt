use Rattle.isa.proofs.Halves.{is_followed}
use Rattle.isa.proofs.laws.an_instruction_is_followed.Goals as goal

pub returns : goal.returns
returns c = is_followed
