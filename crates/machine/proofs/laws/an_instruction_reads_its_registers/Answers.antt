use Rattle.machine.proofs.ByCode.{reads_are}
use Rattle.machine.proofs.laws.an_instruction_reads_its_registers.Goals as goal

pub returns : goal.returns
returns c = reads_are
