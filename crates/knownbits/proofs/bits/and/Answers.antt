use Rattle.std.proofs.Common.{arith}
use Rattle.knownbits.proofs.BitLemmas.{and_known, and_small, and_knows}
use Rattle.knownbits.proofs.bits.and.Goals as goal

pub returns-clause-holds : goal.returns-clause-holds
returns-clause-holds c = λ x y left right. record {
  bits = rw (← left.bits, ← right.bits) (and_known x y _ _ left.small right.small);
  small = and_small x y left.small right.small;
}

pub returns-clause-precise : goal.returns-clause-precise
returns-clause-precise c = λ w i below known. and_knows c.args.left.mask c.args.right.mask
    c.args.left.value c.args.right.value i (omega arith) (omega arith) below known
