use Rattle.machine.proofs.SafeRuns.{safe_ends}
use Rattle.machine.proofs.laws.a_safe_program_ends.Goals as goal

pub returns : goal.returns
returns c = safe_ends
