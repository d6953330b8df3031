use Rattle.invariants.proofs.Worlds.{acknowledged_was_received as was_received}
use Rattle.flood.proofs.laws.acknowledged_was_received.Goals as goal

pub returns : goal.returns
returns c = was_received
