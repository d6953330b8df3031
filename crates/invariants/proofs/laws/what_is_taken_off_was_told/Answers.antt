use Rattle.invariants.proofs.Acknowledged.{taken_off_was_told}
use Rattle.invariants.proofs.laws.what_is_taken_off_was_told.Goals as goal

pub returns : goal.returns
returns c = taken_off_was_told
