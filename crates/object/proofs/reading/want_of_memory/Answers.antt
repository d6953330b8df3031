use Rattle.std.proofs.Common.{◌+◌, subst, ℕ, [], ◌∷◌, ◌++◌, refl, sym}
use Rattle.object.proofs.Behind.{SoFar, one_fails, so_far_more}
use Rattle.object.proofs.reading.want_of_memory.Goals as goal

pub returns-in-Err : goal.returns-in-Err
returns-in-Err c =
    let far = c.loop-index.invariant in
    one_fails c.args.bytes.now c.args.slots c.args.count far.0 c.loop-index.least c.loop-index.index
    c.in-Err.e far.1 c.loop-index-test.true c.in-Err.ensures.why

pub loop-index-preserved : goal.loop-index-preserved
loop-index-preserved c =
    let far = c.loop-index.invariant in
    let i = c.loop-index.index in
    let P : ℕ → Type 0 = λ slot. SoFar c.args.bytes.now c.args.slots (far.0 ++ c.in-Ok.one ∷ [])
    (slot + 1) (i + 1) in (
      far.0 ++ c.in-Ok.one ∷ [],
      subst P (sym c.slot.ensures.value)
          (so_far_more c.args.bytes.now c.args.slots far.0 _ c.loop-index.least i c.in-Ok.one far.1
          c.in-Ok.ensures.spelled c.in-Ok.ensures.ordered refl),
    )
