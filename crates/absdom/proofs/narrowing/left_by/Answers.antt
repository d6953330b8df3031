use Rattle.std.proofs.Common.{ℕ, ◌<◌, ◌^◌, arith, sym, subst}
use Rattle.std.specs.Prelude.{IsTrue}
use Rattle.isa.specs.declared.instruction.Test.{Test}
use Rattle.isa.specs.declared.instruction.Width.TheVariants.{Bits64}
use Rattle.isa.specs.Arithmetic.{low, test_holds}
use Rattle.absdom.proofs.ArithmeticLemmas.{low_same}
use Rattle.absdom.proofs.narrowing.left_by.Goals as goal

-- a test of 64 bits reads whole numbers
reads_whole : (test : Test) (a b : ℕ) → a < 2 ^ 64 → b < 2 ^ 64
    → IsTrue (test_holds Bits64 test a b)
    → IsTrue (test_holds Bits64 test (low Bits64 a) (low Bits64 b))
reads_whole test a b small small' meets =
    subst (λ x. IsTrue (test_holds Bits64 test x (low Bits64 b))) (sym (low_same Bits64 a small))
    (subst (λ y. IsTrue (test_holds Bits64 test a y)) (sym (low_same Bits64 b small')) meets)

pub returns-in_err-left-clause-holds : goal.returns-in_err-left-clause-holds
returns-in_err-left-clause-holds g c = λ n inside meets.
    let small : c.args.number < 2 ^ 64 = omega arith in
    absurd (c.in_err-left.ensures.holds n c.args.number inside c.constant.ensures.holds
    (reads_whole c.args.test n c.args.number (g.met.D.Domain.below c.args.value n inside) small
    meets))

pub returns-clause-holds : goal.returns-clause-holds
returns-clause-holds g c = λ n inside meets.
    let small : c.args.number < 2 ^ 64 = omega arith in
    (c.in_ok-left.ensures.holds n c.args.number inside c.constant.ensures.holds
    (reads_whole c.args.test n c.args.number (g.met.D.Domain.below c.args.value n inside) small
    meets)).0
