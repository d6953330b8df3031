use Rattle.packet.proofs.Whole.{faultless}
use Rattle.packet.proofs.laws.texts_are_faultless.Goals as goal

pub returns : goal.returns
returns c = faultless
