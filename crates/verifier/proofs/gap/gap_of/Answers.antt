use Rattle.std.proofs.Common.{◌≡◌, get_or, refl, ap, arith}
use Rattle.machine.specs.State.{held}
use Rattle.kinds.specs.Meaning.{number_in}
use Rattle.verifier.proofs.Dots.{dot_next, dot_empty}
use Rattle.verifier.proofs.Gaps.{gap_sum, nothing_saved, nothing_needed}
use Rattle.verifier.proofs.gap.gap_of.Goals as goal

pub loop-index-init : goal.loop-index-init
loop-index-init g c = (
  λ start held_there. rw (
    dot_empty c.args.lefts (number_in start),
    dot_empty c.args.rights (number_in start),
  ) (omega arith),
  λ same. (refl, refl),
)

pub loop-index-preserved : goal.loop-index-preserved
loop-index-preserved g c = (
  λ start held_there.
      let here = c.in_ok-gap.ensures.holds (held start c.loop-index.index)
      (rw c.listed.ensures.value (held_there c.loop-index.index
      (omega (arith, c.loop-index-test.true)))) in
      rw (
        dot_next c.loop-index.index c.args.lefts (number_in start),
        dot_next c.loop-index.index c.args.rights (number_in start),
        c.in_ok-saved.ensures.1,
        c.in_ok-needed.ensures.1,
      ) (
      gap_sum _ _ _ _ _ _ _ _ (c.loop-index.invariant.0 start held_there) here),
  λ same.
      let so_far = c.loop-index.invariant.1 same in
      let each : get_or c.args.lefts c.loop-index.index 0
      ≡ get_or c.args.rights c.loop-index.index 0 =
      ap (λ ks. get_or ks c.loop-index.index 0) same in
      let none = c.in_ok-gap.ensures.same each in (
        omega (arith, c.in_ok-saved.ensures.1, so_far.0, nothing_saved c.in_ok-gap.gap none),
        omega (arith, c.in_ok-needed.ensures.1, so_far.1, nothing_needed c.in_ok-gap.gap none),
      ),
)

pub returns-clause-holds : goal.returns-clause-holds
returns-clause-holds g c = λ start held_there.
    let last : c.loop-index.index ≡ 10 = omega (arith, c.loop-index-test.false) in
    rw last at (c.loop-index.invariant.0 start held_there)
