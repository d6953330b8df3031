use Rattle.verifier.proofs.Dots.{dot_none}
use Rattle.verifier.proofs.bound.level.Goals as goal

pub returns-clause-none : goal.returns-clause-none
returns-clause-none c = dot_none
