use Rattle.received.proofs.Firsts.{exactly_one}
use Rattle.received.proofs.laws.exactly_one_case_applies.Goals as goal

pub returns : goal.returns
returns c = exactly_one
