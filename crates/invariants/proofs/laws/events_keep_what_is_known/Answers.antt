use Rattle.invariants.proofs.Keeping.{events_keep_what_is_known as of_events}
use Rattle.invariants.proofs.laws.events_keep_what_is_known.Goals as goal

pub returns : goal.returns
returns c = of_events
