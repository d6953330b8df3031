use Rattle.interval.specs.Bounds.{IsIn}
use Rattle.interval.specs.Signs.{biased_number}
use Rattle.interval.proofs.signs.narrowed.Goals as goal

pub returns-then-is_on_one_side-clause-holds : goal.returns-then-is_on_one_side-clause-holds
returns-then-is_on_one_side-clause-holds c = λ n plain signed.
    let found : IsIn c.in_ok-unsigned.unsigned n =
    c.in_ok-unsigned.ensures.holds n plain (c.turned.ensures.plain n plain.small signed) in
    record { unsigned = found; signed = c.turned-signed.ensures.biased n found }

pub returns-then-is_on_one_side-2-clause-holds : goal.returns-then-is_on_one_side-2-clause-holds
returns-then-is_on_one_side-2-clause-holds c = λ n plain signed.
    let found : IsIn c.in_ok-signed.signed (biased_number n) =
    c.in_ok-signed.ensures.holds (biased_number n) signed
    (c.turned-then-is_on_one_side-2.ensures.biased n plain) in
    record { unsigned = c.turned-unsigned.ensures.plain n plain.small found; signed = found }
