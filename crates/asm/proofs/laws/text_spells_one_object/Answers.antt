use Rattle.asm.proofs.Unique.{one_object}
use Rattle.asm.proofs.laws.text_spells_one_object.Goals as goal

pub returns : goal.returns
returns c = one_object c.one_reading.ensures c.code_has_one_spelling.ensures
