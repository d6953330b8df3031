use Rattle.std.proofs.Common.{false, map, refl, ◌∙◌, arith}
use Rattle.area.specs.Drafted.{drafts_with}
use Rattle.area.specs.Links.{committed_link, draft_of, present}
use Rattle.received.specs.AreaStates.{sends_of}
use Rattle.area.proofs.Changes.{after, after_draft, begins, counts}
use Rattle.area.proofs.Doing.{on_err}
use Rattle.area.proofs.Finish.{finished_drafts, finished_items, finishes_next}
use Rattle.area.proofs.Kept.{shows_kept}
use Rattle.area.proofs.steps.step_links.Goals as goal

pub loop-i-init : goal.loop-i-init
loop-i-init g c = record {
  steps = begins (g.S.LinkStep.after c.args.step.now c.args.database.now.present)
      (g.S.LinkStep.sends c.args.step.now c.args.database.now.present) c.args.links.now;
  committed = refl;
}

pub loop-i-preserved : goal.loop-i-preserved
loop-i-preserved g c =
    let A = g.S.LinkStep.after c.args.step.now c.args.database.now.present in
    let S = g.S.LinkStep.sends c.args.step.now c.args.database.now.present in
    let P = map present c.args.links.now in
    let D = map draft_of c.args.links.now in
    record {
      steps = finishes_next present draft_of (after A S) (after_draft A S) (counts A S) c.loop-i.i
          c.loop-i.links false (map A P) (drafts_with (sends_of S P) P D) false
          c.apply.new.link c.index-links-i.result false false
          (omega (arith, c.loop-i-test.true, c.loop-i.auto.links))
          c.in_ok-apply.ensures.link c.in_ok-apply.ensures.draft refl refl c.loop-i.invariant.steps;
      committed = shows_kept committed_link c.loop-i.links c.loop-i.i c.index-links-i.result
          c.apply.new.link c.index-links-i.is c.in_ok-apply.ensures.committed
          ∙ c.loop-i.invariant.committed;
    }

pub returns : goal.returns
returns g c =
    let A = g.S.LinkStep.after c.args.step.now c.args.database.now.present in
    let S = g.S.LinkStep.sends c.args.step.now c.args.database.now.present in
    let P = map present c.args.links.now in
    let D = map draft_of c.args.links.now in
    record {
      links = finished_items present draft_of (after A S) (after_draft A S) (counts A S) c.loop-i.i
          c.loop-i.links false (map A P) (drafts_with (sends_of S P) P D) false
          (omega (arith, c.loop-i-test.false, c.loop-i.auto.i-end, c.loop-i.auto.links))
          c.loop-i.invariant.steps;
      drafts = finished_drafts present draft_of (after A S) (after_draft A S) (counts A S)
          c.loop-i.i c.loop-i.links false (map A P) (drafts_with (sends_of S P) P D) false
          (omega (arith, c.loop-i-test.false, c.loop-i.auto.i-end, c.loop-i.auto.links))
          c.loop-i.invariant.steps;
      committed = c.loop-i.invariant.committed;
    }

pub returns-in_err-apply : goal.returns-in_err-apply
returns-in_err-apply g c = record {
  links = on_err c.from_residual.result _ c.from_residual.ensures.0;
  drafts = on_err c.from_residual.result _ c.from_residual.ensures.0;
  committed =
      shows_kept committed_link c.loop-i.links c.loop-i.i c.index-links-i.result c.apply.new.link
      c.index-links-i.is c.in_err-apply.ensures.committed ∙ c.loop-i.invariant.committed;
}
