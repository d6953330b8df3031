use Rattle.knownbits.proofs.BitLemmas.{shared_bits}
use Rattle.knownbits.proofs.bits.shared.Goals as goal

pub returns-in-Bits32-clause-holds : goal.returns-in-Bits32-clause-holds
returns-in-Bits32-clause-holds c = λ a b small known same. record {
  bits = rw (← known.bits) (shared_bits a b c.args.known.mask (rw c.in-Bits32.is at same));
  small = small;
}
