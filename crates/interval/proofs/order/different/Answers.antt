use Rattle.std.proofs.Common.{ℕ, arith}
use Rattle.std.specs.Prelude.{◌==◌, not, IsTrue}
use Rattle.std.proofs.lemmas.Bool.Decides.{nat_tests}
use Rattle.interval.proofs.order.different.Goals as goal

other_way : (a b : ℕ) → IsTrue (not (a == b)) → IsTrue (not (b == a))
other_way a b differ = grind (arith, nat_tests)

pub returns-clause-holds : goal.returns-clause-holds
returns-clause-holds c = λ a b left right differ. (
  rw c.in_ok-before.was at (c.trimmed.ensures.holds a b left right differ),
  rw c.in_ok-after.was at (c.trimmed-2.ensures.holds b a right left (other_way a b differ)),
)

pub returns-in_err-after-clause-holds : goal.returns-in_err-after-clause-holds
returns-in_err-after-clause-holds c = λ a b left right differ.
    absurd (rw c.in_err-after.was at (c.trimmed-2.ensures.holds b a right left
    (other_way a b differ)))
