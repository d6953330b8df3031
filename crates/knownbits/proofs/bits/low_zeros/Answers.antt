use Rattle.std.proofs.Common.{◌<◌, ◌+◌, ◌^◌, arith}
use Rattle.std.specs.Prelude.{bit_and}
use Rattle.std.specs.Int.{bit_not, trailing_ones, w64}
use Rattle.std.proofs.lemmas.Nat.{and_le_l}
use Rattle.std.proofs.lemmas.Nat.Bits.{bit_at_ones, bit_at-trailing_ones}
use Rattle.knownbits.proofs.BitLemmas.{divides_known, run_within, zero_seen}
use Rattle.knownbits.proofs.bits.low_zeros.Goals as goal

pub returns-then-zeros-clause-holds : goal.returns-then-zeros-clause-holds
returns-then-zeros-clause-holds c = λ n known.
    divides_known n c.args.known.mask 64 known.small
    (λ i below. rw (known.bits, c.if-zeros.true) (bit_at_ones 64 i below)) (omega arith)

pub returns-clause-holds : goal.returns-clause-holds
returns-clause-holds c = λ n known.
    let room : bit_and c.args.known.mask (bit_not w64 c.args.known.value) + 1 < 2 ^ 64 =
    omega (arith, and_le_l c.args.known.mask (bit_not w64 c.args.known.value), c.if-zeros.false)
    in
    let run = bit_at-trailing_ones w64 (bit_and c.args.known.mask (bit_not w64 c.args.known.value))
    room in
    rw c.trailing_ones.ensures (divides_known n c.args.known.mask
    (trailing_ones w64 (bit_and c.args.known.mask (bit_not w64 c.args.known.value))) known.small
    (λ i below. rw known.bits (run.2 i below)) (omega (arith, run.0)))

pub returns-clause-all : goal.returns-clause-all
returns-clause-all c = λ count most zeros.
    let room : bit_and c.args.known.mask (bit_not w64 c.args.known.value) + 1 < 2 ^ 64 =
    omega (arith, and_le_l c.args.known.mask (bit_not w64 c.args.known.value), c.if-zeros.false)
    in
    rw c.trailing_ones.ensures (run_within
    (bit_and c.args.known.mask (bit_not w64 c.args.known.value)) _ count
    (bit_at-trailing_ones w64 (bit_and c.args.known.mask (bit_not w64 c.args.known.value))
    room).1
    (λ i below. zero_seen c.args.known.mask c.args.known.value i (omega arith)
    (omega (arith, below, most)) (zeros i below).0 (zeros i below).1))
