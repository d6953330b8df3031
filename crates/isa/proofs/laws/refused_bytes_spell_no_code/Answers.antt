use Rattle.isa.proofs.Refused.{refused}
use Rattle.isa.proofs.laws.refused_bytes_spell_no_code.Goals as goal

pub returns : goal.returns
returns c = refused
