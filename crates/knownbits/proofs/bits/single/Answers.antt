use Rattle.std.proofs.lemmas.Nat.Bits.{bit_at_ones}
use Rattle.knownbits.proofs.bits.single.Goals as goal

pub returns-clause-knows : goal.returns-clause-knows
returns-clause-knows c = λ i below. bit_at_ones 64 i below
