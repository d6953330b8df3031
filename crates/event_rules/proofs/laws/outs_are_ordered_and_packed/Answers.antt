use Rattle.event_rules.proofs.Rooms.{ordered_and_packed}
use Rattle.event_rules.proofs.laws.outs_are_ordered_and_packed.Goals as goal

pub returns : goal.returns
returns c = ordered_and_packed
