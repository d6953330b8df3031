use Rattle.knownbits.proofs.BitLemmas.{sum_known, run_knows, word_small}
use Rattle.knownbits.proofs.sum.sum.Goals as goal

pub returns-clause-holds : goal.returns-clause-holds
returns-clause-holds c = λ x y left right. record {
  bits = rw (c.low_mask-mask.ensures, ← left.bits, ← right.bits)
      (sum_known x y c.args.left.mask c.args.right.mask c.known_in_both.result
      c.known_in_both.ensures.most c.known_in_both.ensures.left c.known_in_both.ensures.right);
  small = word_small _;
}

pub returns-clause-knows : goal.returns-clause-knows
returns-clause-knows c = λ count most left right i below.
    rw c.low_mask-mask.ensures (run_knows c.known_in_both.result count i
    (c.known_in_both.ensures.all count most left right) below)
