use Rattle.isa.proofs.Halves.{has_second_half}
use Rattle.isa.proofs.laws.a_wide_instruction_has_its_second_half.Goals as goal

pub returns : goal.returns
returns c = has_second_half
