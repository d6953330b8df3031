use Rattle.std.proofs.Common.{arith, ◌<◌, ◌+◌, ◌*◌, ◌^◌, ◌%◌, subst}
use Rattle.knownbits.specs.Masks.{HasBits}
use Rattle.knownbits.proofs.BitLemmas.{shl_known, shl_fills, shl_moves}
use Rattle.knownbits.proofs.Widths.{width_most, low_of_word}
use Rattle.knownbits.proofs.shift.left_shift.Goals as goal

pub returns-clause-holds : goal.returns-clause-holds
returns-clause-holds c = λ n small known.
    let few : c.args.count < 64 = omega (arith, c.requires, width_most c.args.width) in
    subst (HasBits c.cut.result) (low_of_word c.args.width (n * 2 ^ c.args.count))
    (c.cut.ensures.holds (n * 2 ^ c.args.count % 2 ^ 64) (record {
      bits = rw (c.low_mask.ensures, ← known.bits) (shl_known n c.args.known.mask c.args.count few);
      small = omega arith;
    }))

pub returns-clause-filled : goal.returns-clause-filled
returns-clause-filled c = λ i low. c.cut.ensures.keeps i
    (omega (arith, low, c.requires, width_most c.args.width))
    (rw c.low_mask.ensures (shl_fills c.args.known.mask c.args.count i low))

pub returns-clause-moved : goal.returns-clause-moved
returns-clause-moved c = λ i below known.
    let inside : i + c.args.count < 64 = omega (arith, below, width_most c.args.width) in
    c.cut.ensures.keeps (i + c.args.count) inside
    (rw c.low_mask.ensures (shl_moves c.args.known.mask c.args.count i inside known))
