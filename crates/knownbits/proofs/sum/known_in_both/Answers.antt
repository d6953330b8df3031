use Rattle.std.proofs.Common.{arith, ◌<◌, ◌+◌, ◌^◌}
use Rattle.std.specs.Prelude.{bit_and}
use Rattle.std.specs.Int.{w64}
use Rattle.std.proofs.lemmas.Nat.{and_le_l}
use Rattle.std.proofs.lemmas.Nat.Bits.{bit_at_ones, bit_at-trailing_ones}
use Rattle.knownbits.proofs.BitLemmas.{known_of_left, known_of_right, both_known, run_within}
use Rattle.knownbits.proofs.sum.known_in_both.Goals as goal

pub returns-then-both-clause-left : goal.returns-then-both-clause-left
returns-then-both-clause-left c = λ i below. known_of_left c.args.left.mask c.args.right.mask i
    (rw c.if-both.true (bit_at_ones 64 i below))

pub returns-then-both-clause-right : goal.returns-then-both-clause-right
returns-then-both-clause-right c =
    λ i below. known_of_right c.args.left.mask c.args.right.mask i
    (rw c.if-both.true (bit_at_ones 64 i below))

pub returns-clause-left : goal.returns-clause-left
returns-clause-left c = λ i below.
    let room : bit_and c.args.left.mask c.args.right.mask + 1 < 2 ^ 64 =
    omega (arith, and_le_l c.args.left.mask c.args.right.mask, c.if-both.false) in
    known_of_left c.args.left.mask c.args.right.mask i
    ((bit_at-trailing_ones w64 (bit_and c.args.left.mask c.args.right.mask) room).2 i
    (rw c.trailing_ones.ensures at below))

pub returns-clause-right : goal.returns-clause-right
returns-clause-right c = λ i below.
    let room : bit_and c.args.left.mask c.args.right.mask + 1 < 2 ^ 64 =
    omega (arith, and_le_l c.args.left.mask c.args.right.mask, c.if-both.false) in
    known_of_right c.args.left.mask c.args.right.mask i
    ((bit_at-trailing_ones w64 (bit_and c.args.left.mask c.args.right.mask) room).2 i
    (rw c.trailing_ones.ensures at below))

pub returns-clause-all : goal.returns-clause-all
returns-clause-all c = λ count most left right.
    let room : bit_and c.args.left.mask c.args.right.mask + 1 < 2 ^ 64 =
    omega (arith, and_le_l c.args.left.mask c.args.right.mask, c.if-both.false) in
    rw c.trailing_ones.ensures (run_within (bit_and c.args.left.mask c.args.right.mask) _ count
    (bit_at-trailing_ones w64 (bit_and c.args.left.mask c.args.right.mask) room).1
    (λ i below. both_known _ _ i (left i below) (right i below)))
