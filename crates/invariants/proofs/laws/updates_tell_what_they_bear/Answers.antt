use Rattle.invariants.proofs.Read.{told_is_borne}
use Rattle.invariants.proofs.laws.updates_tell_what_they_bear.Goals as goal

pub returns : goal.returns
returns c = told_is_borne
