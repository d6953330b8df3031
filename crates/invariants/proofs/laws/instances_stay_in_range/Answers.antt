use Rattle.invariants.proofs.Keeping.{instances_stay_in_range as of_events}
use Rattle.invariants.proofs.laws.instances_stay_in_range.Goals as goal

pub returns : goal.returns
returns c = of_events
