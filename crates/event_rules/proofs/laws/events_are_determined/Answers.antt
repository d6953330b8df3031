use Rattle.event_rules.proofs.Outcomes.{determined}
use Rattle.event_rules.proofs.laws.events_are_determined.Goals as goal

pub returns : goal.returns
returns c = determined
