use Rattle.std.proofs.Common.{◌+◌, sym, ap, ◌∙◌, arith}
use Rattle.area.proofs.Acknowledged.{from}
use Rattle.area.proofs.Sends.{drafted_none}
use Rattle.router.proofs.Onwards.{from_end, from_next}
use Rattle.area.specs.Links.{without_acknowledged}
use Rattle.area.proofs.Doing.{on_err}
use Rattle.router.specs.Aging.{without_each}
use Rattle.area.proofs.Marking.{area_is}
use Rattle.router.proofs.aging.remove_each.Goals as goal

pub loop-i-preserved : goal.loop-i-preserved
loop-i-preserved c =
    let L = c.args.area.now.present.links in
    let keys = c.args.keys.now in
    let i = c.loop-i.i in
    let d = c.loop-i.area.present.database in
    let does = c.in_ok-remove_if_unlisted.ensures in
    record {
      links = ap (λ a. a.links) does.area ∙ c.loop-i.invariant.links;
      leaves =
          ap (λ e. without_each L e (from (i + 1) keys))
          (ap (λ a. a.database) does.area
          ∙ ap (λ ls. without_acknowledged ls d c.index-keys-i.result) c.loop-i.invariant.links
          ∙ ap (without_acknowledged L d) c.index-keys-i.is)
          ∙ ap (without_each L d) (sym (from_next i keys c.index-keys-i.result
          (omega (arith, c.loop-i-test.true)))) ∙ c.loop-i.invariant.leaves;
      drafts = does.drafts
          ∙ sym (drafted_none 1 c.loop-i.area.present.links c.loop-i.area.drafted)
          ∙ c.loop-i.invariant.drafts;
      committed = does.committed ∙ c.loop-i.invariant.committed;
      router = does.router ∙ c.loop-i.invariant.router;
    }

pub returns-in_err-remove_if_unlisted : goal.returns-in_err-remove_if_unlisted
returns-in_err-remove_if_unlisted c = record {
  area = on_err c.from_residual.result _ c.from_residual.ensures.0;
  drafts = on_err c.from_residual.result _ c.from_residual.ensures.0;
  committed = c.in_err-remove_if_unlisted.ensures.committed ∙ c.loop-i.invariant.committed;
  router = c.in_err-remove_if_unlisted.ensures.router ∙ c.loop-i.invariant.router;
}

pub returns : goal.returns
returns c =
    let L = c.args.area.now.present.links in
    record {
      area = area_is c.loop-i.invariant.links
          (ap (without_each L c.loop-i.area.present.database)
          (sym (from_end c.loop-i.i c.args.keys.now
          (omega (arith, c.loop-i-test.false, c.loop-i.auto.i-end))))
          ∙ c.loop-i.invariant.leaves);
      drafts = c.loop-i.invariant.drafts ∙ drafted_none 1 L c.args.area.now.drafted;
      committed = c.loop-i.invariant.committed;
      router = c.loop-i.invariant.router;
    }
