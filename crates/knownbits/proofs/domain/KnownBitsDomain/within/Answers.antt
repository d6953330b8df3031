use Rattle.std.proofs.Common.{◌≡◌, ◌<◌, ◌^◌, arith, lit<}
use Rattle.std.specs.Prelude.{bit_and}
use Rattle.std.proofs.lemmas.Bool.Decides.{nat_tests}
use Rattle.knownbits.proofs.BitLemmas.{mask_within, nothing_known, value_within, within_known}
use Rattle.knownbits.proofs.domain.KnownBitsDomain.within.Goals as goal

pub returns-then-self-other-clause-included : goal.returns-then-self-other-clause-included
returns-then-self-other-clause-included c = λ same n known.
    let part : bit_and c.args.self.value c.args.other.mask ≡ c.args.other.value =
    grind (arith, nat_tests) in
    record {
      bits = within_known n c.args.self.mask c.args.other.mask c.args.self.value c.args.other.value
          known.bits c.if-self-other.true part;
      small = known.small;
    }

pub returns-else-self-other-clause-everything : goal.returns-else-self-other-clause-everything
returns-else-self-other-clause-everything c = λ all.
    let small : c.args.other.mask < 2 ^ 64 = omega arith in
    absurd (c.if-self-other.false (nothing_known c.args.self.mask c.args.other.mask
    c.args.other.value small (all 0 (lit< tt)).bits (all 18446744073709551615 (lit< tt)).bits))

pub returns-then-self-other-clause-gives : goal.returns-then-self-other-clause-gives
returns-then-self-other-clause-gives c = λ inside knows.
    let small : c.args.other.mask < 2 ^ 64 = omega arith in
    let same : bit_and c.args.self.value c.args.other.mask ≡ c.args.other.value =
    value_within c.args.self.value c.args.other.mask c.args.other.value small inside
    (λ i below known. (knows i below known).1) in
    grind (arith, nat_tests, same)

pub returns-else-self-other-clause-gives : goal.returns-else-self-other-clause-gives
returns-else-self-other-clause-gives c = λ inside knows.
    let small : c.args.other.mask < 2 ^ 64 = omega arith in
    absurd (c.if-self-other.false (mask_within c.args.self.mask c.args.other.mask small
    (λ i below known. (knows i below known).0)))
