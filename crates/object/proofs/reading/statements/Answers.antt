use Rattle.std.proofs.Common.{◌+◌, ℕ, subst, sym}
use Rattle.object.proofs.Behind.{SoFar, one_fails, so_far_more}
use Rattle.object.proofs.reading.statements.Goals as goal

pub returns-in-Err-clause-why : goal.returns-in-Err-clause-why
returns-in-Err-clause-why c =
    one_fails c.args.bytes.now c.args.slots c.args.count c.loop-index.statements.items
    c.loop-index.least c.loop-index.index c.in-Err.e
    c.loop-index.invariant c.loop-index-test.true c.in-Err.ensures.why

pub loop-index-preserved : goal.loop-index-preserved
loop-index-preserved c =
    let i = c.loop-index.index in
    let P : ℕ → Type 0 = λ slot. SoFar c.args.bytes.now c.args.slots c.push.new.self.items
    (slot + 1) (i + 1) in
    subst P (sym c.slot.ensures.value)
    (so_far_more c.args.bytes.now c.args.slots c.loop-index.statements.items _
    c.loop-index.least i c.in-Ok-statement_at.one
    c.loop-index.invariant c.in-Ok-statement_at.ensures.spelled c.in-Ok-statement_at.ensures.ordered
    c.in-Ok-push.ensures.items)
