use Rattle.program_laws.proofs.RefusalLaws.{in_their_order}
use Rattle.program_laws.proofs.small_programs.rules_count_in_their_order.Goals as goal

pub returns : goal.returns
returns c = in_their_order
