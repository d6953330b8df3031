use Rattle.knownbits.proofs.BitLemmas.{join_known, join_clash, clash_seen, left_known, right_known}
use Rattle.knownbits.proofs.bits.join.Goals as goal

pub returns-then-left-right-ne0-clause-holds : goal.returns-then-left-right-ne0-clause-holds
returns-then-left-right-ne0-clause-holds c = λ n left right.
    let agree = rw (left.bits, right.bits) at
    (join_clash n c.args.left.mask c.args.right.mask left.small) in
    c.if-left-right-ne0.true agree

pub returns-clause-holds : goal.returns-clause-holds
returns-clause-holds c = λ n left right. record {
  bits = rw (← left.bits, ← right.bits) (join_known n _ _ left.small);
  small = left.small;
}

pub returns-clause-precise : goal.returns-clause-precise
returns-clause-precise c = record {
  from_left = λ i below known. left_known c.args.left.mask c.args.right.mask i known;
  from_right = λ i below known. right_known c.args.left.mask c.args.right.mask i known;
}

pub returns-clause-contradiction : goal.returns-clause-contradiction
returns-clause-contradiction c = λ i below low high.
    absurd (clash_seen c.args.left.mask c.args.right.mask c.args.left.value c.args.right.value i
    low.0 low.1 high.0 high.1 c.if-left-right-ne0.false)
