use Rattle.routes.proofs.Spreading.{left, passed_on, with_marks, with_some}
use Rattle.routes.proofs.reaching.spread.Goals as goal
use Rattle.routes.proofs.reaching.spread.Goals.{then-pass_on, else-pass_on}

pub loop-hop-preserved : goal.loop-hop-preserved
loop-hop-preserved c =
    elim c.if-pass_on.branch [
      | then-pass_on w ↦ with_some _ _ _ _ _ _ _ w.some-is
          (passed_on _ _ _ _ _ _ _ _ _ c.loop-hop-test.true c.loop-hop.auto.marks c.requires.within
          c.loop-hop.invariant (c.pass_on.ensures.passes w.if-pass_on.true))
      | else-pass_on w ↦ with_some _ _ _ _ _ _ _ w.some-is
          (with_marks _ _ _ _ _ _ _ (c.pass_on.ensures.same w.if-pass_on.false)
          (left _ _ _ _ _ _ _ c.loop-hop-test.true c.loop-hop.invariant
          (c.pass_on.ensures.stays w.if-pass_on.false)))
    ]
