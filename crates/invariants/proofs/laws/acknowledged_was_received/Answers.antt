use Rattle.invariants.proofs.Worlds.{acknowledged_was_received}
use Rattle.invariants.proofs.laws.acknowledged_was_received.Goals as goal

pub returns : goal.returns
returns c = acknowledged_was_received
