use Rattle.candidates.proofs.Told.{by_none_told, by_told}
use Rattle.candidates.proofs.externals.external_offer.Goals as goal

pub returns-in_err-advertised : goal.returns-in_err-advertised
returns-in_err-advertised c = rw c.from_residual.ensures
    (by_none_told _ _ _ _ _ c.in_err-advertised.ensures)

pub returns : goal.returns
returns c = by_told _ _ _ _ _ c.in_ok-advertised.advertised c.in_ok-advertised.ensures
    c.offer_of_external.result
    c.offer_of_external.ensures
