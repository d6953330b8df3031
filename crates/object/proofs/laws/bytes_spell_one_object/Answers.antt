use Rattle.object.proofs.Whole.{same_object}
use Rattle.object.proofs.laws.bytes_spell_one_object.Goals as goal

pub returns : goal.returns
returns c = same_object
