use Rattle.std.proofs.Common.{arith}
use Rattle.std.proofs.lemmas.Nat.Bits.{bit_at_mask_inside}
use Rattle.knownbits.proofs.BitLemmas.{cut_known, left_known, right_known}
use Rattle.knownbits.proofs.bits.cut.Goals as goal

pub returns-in-Bits32-clause-holds : goal.returns-in-Bits32-clause-holds
returns-in-Bits32-clause-holds c = λ n known. rw c.in-Bits32.is (record {
  bits = rw (← known.bits) (cut_known n c.args.known.mask known.small);
  small = omega arith;
})

pub returns-in-Bits32-clause-keeps : goal.returns-in-Bits32-clause-keeps
returns-in-Bits32-clause-keeps c =
    λ i below known. left_known c.args.known.mask 18446744069414584320 i known

pub returns-in-Bits32-clause-upper : goal.returns-in-Bits32-clause-upper
returns-in-Bits32-clause-upper c =
    λ i above below. right_known c.args.known.mask 18446744069414584320 i
    (bit_at_mask_inside 32 64 i (rw c.in-Bits32.is at above) below)
