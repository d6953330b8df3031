use Rattle.invariants.proofs.WrongSteps.{another_takes_nothing_off}
use Rattle.invariants.proofs.laws.another_acknowledgment_takes_nothing_off.Goals as goal

pub returns : goal.returns
returns c = another_takes_nothing_off
