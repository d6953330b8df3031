use Rattle.std.proofs.lemmas.Nat.Bits.{bit_at_mask_inside}
use Rattle.knownbits.proofs.bits.every.Goals as goal

pub returns-in-Bits32-clause-upper : goal.returns-in-Bits32-clause-upper
returns-in-Bits32-clause-upper c =
    λ i above below. bit_at_mask_inside 32 64 i (rw c.in-Bits32.is at above) below
