use Rattle.std.proofs.Common.{◌+◌, sym, ap, ◌∙◌, arith}
use Rattle.std.specs.List.{fold}
use Rattle.std.specs.FinMap as finite
use Rattle.router.proofs.Onwards.{from_end, from_next}
use Rattle.area.proofs.Acknowledged.{from}
use Rattle.router.proofs.destinations.remove_each.Goals as goal

pub loop-i-preserved : goal.loop-i-preserved
loop-i-preserved c =
    let keys = c.args.keys.now in
    let i = c.loop-i.i in
    let m = c.loop-i.moments.present in
    record {
      leaves =
          ap (λ e. fold finite.remove e (from (i + 1) keys))
          (c.in_ok-remove.ensures.ok ∙ ap (finite.remove m) c.index-keys-i.is)
          ∙ ap (fold finite.remove m) (sym
          (from_next i keys c.index-keys-i.result (omega (arith, c.loop-i-test.true))))
          ∙ c.loop-i.invariant.leaves;
      committed = c.in_ok-remove.ensures.committed ∙ c.loop-i.invariant.committed;
    }

pub returns-clause-ok : goal.returns-clause-ok
returns-clause-ok c =
    ap (fold finite.remove c.loop-i.moments.present)
    (sym (from_end c.loop-i.i c.args.keys.now
    (omega (arith, c.loop-i-test.false, c.loop-i.auto.i-end)))) ∙ c.loop-i.invariant.leaves
