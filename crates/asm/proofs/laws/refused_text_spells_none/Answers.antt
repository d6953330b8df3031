use Rattle.asm.proofs.Unique.{none_spelled}
use Rattle.asm.proofs.laws.refused_text_spells_none.Goals as goal

pub returns : goal.returns
returns c = none_spelled c.one_reading.ensures
