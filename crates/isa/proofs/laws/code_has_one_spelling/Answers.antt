use Rattle.isa.proofs.Unique.{same_bytes}
use Rattle.isa.proofs.laws.code_has_one_spelling.Goals as goal

pub returns : goal.returns
returns c = same_bytes
