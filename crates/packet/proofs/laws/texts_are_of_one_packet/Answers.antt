use Rattle.packet.proofs.Whole.{one_packet}
use Rattle.packet.proofs.laws.texts_are_of_one_packet.Goals as goal

pub returns : goal.returns
returns c = one_packet
