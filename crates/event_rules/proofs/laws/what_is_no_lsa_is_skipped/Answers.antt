use Rattle.event_rules.proofs.Skipped.{skipped}
use Rattle.event_rules.proofs.laws.what_is_no_lsa_is_skipped.Goals as goal

pub returns : goal.returns
returns c = skipped
