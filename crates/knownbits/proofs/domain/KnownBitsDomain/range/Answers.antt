use Rattle.std.proofs.Common.{◌<◌, ◌^◌, arith, refl}
use Rattle.std.proofs.lemmas.Nat.{and_le_l}
use Rattle.knownbits.proofs.BitLemmas.{at_most, greatest}
use Rattle.knownbits.proofs.domain.KnownBitsDomain.range.Goals as goal

pub returns-clause-holds : goal.returns-clause-holds
returns-clause-holds c = λ n inside.
    let small : c.args.self.mask < 2 ^ 64 = omega arith in (
      omega (arith, inside.bits, and_le_l n c.args.self.mask),
      at_most n c.args.self.mask c.args.self.value inside.small small inside.bits,
    )

pub returns-clause-gives : goal.returns-clause-gives
returns-clause-gives c = λ within.
    let small : c.args.self.mask < 2 ^ 64 = omega arith in
    (refl, greatest c.args.self.value c.args.self.mask small within)
