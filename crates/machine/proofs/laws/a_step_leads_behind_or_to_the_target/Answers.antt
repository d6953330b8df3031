use Rattle.machine.proofs.ByCode.{steps_lead}
use Rattle.machine.proofs.laws.a_step_leads_behind_or_to_the_target.Goals as goal

pub returns : goal.returns
returns c = steps_lead
