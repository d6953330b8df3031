use Rattle.isa.proofs.Unique.{same_code}
use Rattle.isa.proofs.laws.bytes_spell_one_code.Goals as goal

pub returns : goal.returns
returns c = same_code
