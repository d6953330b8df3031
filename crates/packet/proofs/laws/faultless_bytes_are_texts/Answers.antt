use Rattle.packet.proofs.Whole.{faultless_text, one_of_a_text}
use Rattle.packet.proofs.laws.faultless_bytes_are_texts.Goals as goal

pub returns : goal.returns
returns c = λ bytes fits. (faultless_text bytes fits, one_of_a_text bytes)
