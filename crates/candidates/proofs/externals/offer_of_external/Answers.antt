use Rattle.std.proofs.Common.{arith, rules}
use Rattle.candidates.proofs.Told.{no_way_out, offered_by}
use Rattle.candidates.proofs.externals.offer_of_external.Goals as goal

pub returns-in_err-way : goal.returns-in_err-way
returns-in_err-way c = rw c.from_residual.ensures (no_way_out _ _ _ _ _ c.in_err-way.ensures.only)

pub returns : goal.returns
returns c = offered_by _ _ _ _ _ c.in_ok-way.way c.external.result (omega arith) (search rules)
    c.in_ok-way.ensures.only c.external.ensures
