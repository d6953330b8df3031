use Rattle.invariants.proofs.Lawful.{texts_are_lawful as all_are_lawful}
use Rattle.invariants.proofs.laws.texts_are_lawful.Goals as goal

pub returns : goal.returns
returns c = all_are_lawful
