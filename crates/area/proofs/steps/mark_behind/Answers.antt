use Rattle.std.proofs.Common.{◌+◌, drop, map, sym, ap, ◌∙◌, arith}
use Rattle.area.specs.Steps.{key_of_update, mark_each}
use Rattle.area.proofs.Updates.{drop_end, drop_next}
use Rattle.area.proofs.steps.mark_behind.Goals as goal

pub loop-i-preserved : goal.loop-i-preserved
loop-i-preserved c =
    let us = c.args.updates.now in
    let i = c.loop-i.i in
    let d = c.loop-i.database.present in
    let moment = c.args.moment in
    record {
      marks =
          ap (λ e. mark_each moment e (map key_of_update (drop (i + 1) us)))
          c.in_ok-mark_sent.ensures.ok
          ∙ ap (λ xs. mark_each moment d (map key_of_update xs))
          (sym (drop_next i us c.index-updates-i.result (omega (arith, c.loop-i-test.true))))
          ∙ c.loop-i.invariant.marks;
      committed = c.in_ok-mark_sent.ensures.committed ∙ c.loop-i.invariant.committed;
      router = c.in_ok-mark_sent.ensures.router ∙ c.loop-i.invariant.router;
    }

pub returns : goal.returns
returns c = record {
  ok =
      ap (λ xs. mark_each c.args.moment c.loop-i.database.present (map key_of_update xs))
      (sym (drop_end c.loop-i.i c.args.updates.now (omega (arith, c.loop-i-test.false))))
      ∙ c.loop-i.invariant.marks;
  committed = c.loop-i.invariant.committed;
  router = c.loop-i.invariant.router;
}
