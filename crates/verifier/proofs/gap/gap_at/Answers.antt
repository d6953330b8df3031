use Rattle.std.proofs.Common.{arith}
use Rattle.kinds.specs.Meaning.{number_of_content}
use Rattle.verifier.proofs.Gaps.{gap_above, gap_below}
use Rattle.verifier.proofs.gap.gap_at.Goals as goal

pub returns-clause-holds : goal.returns-clause-holds
returns-clause-holds g c = λ content of_kind.
    gap_above c.args.left c.args.right (number_of_content content) c.in_ok-high.high
    c.in_ok-needed.needed (omega (arith, c.if-left-right-2.false))
    (c.in_ok-high.ensures.holds content of_kind) c.in_ok-needed.ensures.1

pub returns-then-left-right-2-clause-holds : goal.returns-then-left-right-2-clause-holds
returns-then-left-right-2-clause-holds g c = λ content of_kind.
    gap_below c.args.left c.args.right (number_of_content content) c.least-low.result
    c.in_ok-saved.saved c.if-left-right-2.true (c.least-low.ensures.holds content of_kind)
    c.in_ok-saved.ensures.1
