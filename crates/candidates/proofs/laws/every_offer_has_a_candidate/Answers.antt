use Rattle.candidates.proofs.Offered.{every}
use Rattle.candidates.proofs.laws.every_offer_has_a_candidate.Goals as goal

pub returns : goal.returns
returns c = every
