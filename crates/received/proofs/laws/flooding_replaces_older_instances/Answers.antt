use Rattle.received.proofs.Flooded.{replaces_older}
use Rattle.received.proofs.laws.flooding_replaces_older_instances.Goals as goal

pub returns : goal.returns
returns c = replaces_older
