use Rattle.lsa.proofs.Spelling.{in_bytes, of_text}
use Rattle.lsa.proofs.laws.texts_are_found.Goals as goal

pub returns : goal.returns
returns c = λ bytes lsa fits. (in_bytes bytes lsa fits, of_text bytes lsa)
