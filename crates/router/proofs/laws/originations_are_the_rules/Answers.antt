use Rattle.router.proofs.Decided.{are_the_rules}
use Rattle.router.proofs.laws.originations_are_the_rules.Goals as goal

pub returns : goal.returns
returns c = are_the_rules
