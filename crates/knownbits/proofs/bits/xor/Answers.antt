use Rattle.knownbits.proofs.BitLemmas.{xor_known, xor_small, both_known}
use Rattle.knownbits.proofs.bits.xor.Goals as goal

pub returns-clause-holds : goal.returns-clause-holds
returns-clause-holds c = λ x y left right. record {
  bits = rw (← left.bits, ← right.bits) (xor_known x y _ _ left.small right.small);
  small = xor_small x y left.small right.small;
}

pub returns-clause-precise : goal.returns-clause-precise
returns-clause-precise c = λ w i below left right. both_known _ _ i left right
