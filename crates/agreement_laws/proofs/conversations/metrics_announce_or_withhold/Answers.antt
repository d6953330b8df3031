use Rattle.agreement_laws.proofs.WorkedMetrics.{announce_or_withhold}
use Rattle.agreement_laws.proofs.conversations.metrics_announce_or_withhold.Goals as goal

pub returns : goal.returns
returns c = announce_or_withhold
