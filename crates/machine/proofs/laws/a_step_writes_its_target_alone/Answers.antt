use Rattle.machine.proofs.ByCode.{target_alone}
use Rattle.machine.proofs.laws.a_step_writes_its_target_alone.Goals as goal

pub returns : goal.returns
returns c = target_alone
