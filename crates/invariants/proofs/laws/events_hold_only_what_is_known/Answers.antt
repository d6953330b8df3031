use Rattle.invariants.proofs.Keeping.{only_what_is_known}
use Rattle.invariants.proofs.laws.events_hold_only_what_is_known.Goals as goal

pub returns : goal.returns
returns c = only_what_is_known
