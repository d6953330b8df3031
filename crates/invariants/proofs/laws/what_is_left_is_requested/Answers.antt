use Rattle.invariants.proofs.Requesting.{what_is_left_is_requested as left_is_requested}
use Rattle.invariants.proofs.laws.what_is_left_is_requested.Goals as goal

pub returns : goal.returns
returns c = left_is_requested
