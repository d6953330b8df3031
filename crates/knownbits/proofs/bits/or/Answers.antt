use Rattle.knownbits.proofs.BitLemmas.{or_known, or_small, or_knows}
use Rattle.knownbits.proofs.bits.or.Goals as goal

pub returns-clause-holds : goal.returns-clause-holds
returns-clause-holds c = λ x y left right. record {
  bits = rw (← left.bits, ← right.bits) (or_known x y _ _ left.small right.small);
  small = or_small x y left.small right.small;
}

pub returns-clause-precise : goal.returns-clause-precise
returns-clause-precise c = λ w i below known. or_knows c.args.left.mask c.args.right.mask
    c.args.left.value c.args.right.value i known
