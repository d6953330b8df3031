use Rattle.isa.proofs.Halves.{one_ends}
use Rattle.isa.proofs.laws.one_instruction_ends_at_a_slot.Goals as goal

pub returns : goal.returns
returns c = one_ends
