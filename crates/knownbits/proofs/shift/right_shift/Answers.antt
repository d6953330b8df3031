use Rattle.std.proofs.Common.{arith, ◌+◌, subst}
use Rattle.std.proofs.lemmas.Nat.{shr_le}
use Rattle.knownbits.specs.Masks.{HasBits}
use Rattle.knownbits.proofs.BitLemmas.{shr_known, shr_filled, shr_moves, bit_place}
use Rattle.knownbits.proofs.Widths.{low_fits}
use Rattle.knownbits.proofs.shift.right_shift.Goals as goal

pub returns-clause-holds : goal.returns-clause-holds
returns-clause-holds c = λ n small known.
    let cut = subst (HasBits c.cut-known.result) (low_fits c.args.width n small)
    (c.cut-known.ensures.holds n known) in
    record {
      bits = rw (← cut.bits) (shr_known n c.cut-known.result.mask c.args.count cut.small
          (omega arith));
      small = omega (arith, cut.small, shr_le n c.args.count);
    }

pub returns-clause-filled : goal.returns-clause-filled
returns-clause-filled c = λ i above below. shr_filled c.cut-known.result.mask c.args.count i below
    (λ inside. c.cut-known.ensures.upper (c.args.count + i) (omega (arith, above)) inside)

pub returns-clause-moved : goal.returns-clause-moved
returns-clause-moved c = λ i below known.
    shr_moves c.cut-known.result.mask c.args.count i
    (c.cut-known.ensures.keeps (c.args.count + i) (omega (arith, below))
    (bit_place c.args.known.mask c.args.count i known))
