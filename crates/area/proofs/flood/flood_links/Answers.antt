use Rattle.std.proofs.Common.{◌+◌, map, get_or, refl, ap, ◌∙◌, arith}
use Rattle.lsdb.specs.Copies.{lsa_now}
use Rattle.adjacency.specs.Contents as neighbor
use Rattle.adjacency.specs.Drafts.{drafting}
use Rattle.adjacency.specs.Floods.{flood_step, is_any}
use Rattle.received.specs.AreaStates.{stepped_links, stepping_sends}
use Rattle.area.specs.Drafted.{drafted_from}
use Rattle.area.specs.Links.{committed_link, draft_of, present, with_neighbor}
use Rattle.area.proofs.Doing.{on_err}
use Rattle.area.proofs.Finish.{finished_counts, finished_drafts, finished_items, finishes_next}
use Rattle.area.proofs.Flooded.{after_draft, after_step, begins, counts, sent_is, step, step_is}
use Rattle.area.proofs.Kept.{shows_kept}
use Rattle.area.proofs.flood.flood_links.Goals as goal

pub loop-i-init : goal.loop-i-init
loop-i-init c = record {
  floods = begins c.args.moment c.args.incoming (lsa_now c.args.moment c.args.copy.now)
      c.args.links.now;
  committed = refl;
}

pub returns-in_err-one-clause-does : goal.returns-in_err-one-clause-does
returns-in_err-one-clause-does c = record {
  links = on_err c.from_residual.result _ c.from_residual.ensures.0;
  drafts = on_err c.from_residual.result _ c.from_residual.ensures.0;
  committed =
      shows_kept committed_link c.loop-i.links c.loop-i.i c.index-links-i.result c.flood.new.self
      c.index-links-i.is c.in_err-one.ensures.does.committed
      ∙ c.loop-i.invariant.committed;
}

pub loop-i-preserved : goal.loop-i-preserved
loop-i-preserved c =
    let lsa = lsa_now c.args.moment c.args.copy.now in
    let P = map present c.args.links.now in
    let D = map draft_of c.args.links.now in
    let F = step c.args.moment c.args.incoming lsa in
    let old = get_or c.loop-i.links c.loop-i.i c.index-links-i.result in
    let stepping = ap (λ b. neighbor.step_on (flood_step c.args.moment b lsa) old.present.neighbor)
    c.is_incoming-came_in.ensures ∙ step_is c.args.moment c.args.incoming lsa (c.loop-i.i + 1)
    old.present old.present.neighbor in
    let sending = ap (λ b. neighbor.sent_on (flood_step c.args.moment b lsa) old.present.neighbor)
    c.is_incoming-came_in.ensures ∙ sent_is c.args.moment c.args.incoming lsa (c.loop-i.i + 1)
    old.present old.present.neighbor in
    record {
      floods = finishes_next present draft_of (after_step c.args.moment c.args.incoming lsa)
          (after_draft c.args.moment c.args.incoming lsa)
          (counts c.args.moment c.args.incoming lsa)
          c.loop-i.i c.loop-i.links c.loop-i.sent
          (stepped_links F P) (drafted_from 1 (stepping_sends F P) P D)
          (is_any (stepping_sends F P))
          c.flood.new.self c.index-links-i.result c.in_ok-one.one c.was_sent-sent.result
          (omega (arith, c.loop-i-test.true, c.loop-i.auto.links))
          (c.in_ok-one.ensures.does.link ∙ ap (λ o. with_neighbor o old.present) stepping)
          (c.in_ok-one.ensures.does.draft
          ∙ ap (λ cs. drafting old.present.interface.delay cs old.drafted) sending)
          (c.in_ok-one.ensures.sent ∙ ap is_any sending)
          c.was_sent-sent.ensures c.loop-i.invariant.floods;
      committed = shows_kept committed_link c.loop-i.links c.loop-i.i c.index-links-i.result
          c.flood.new.self c.index-links-i.is c.in_ok-one.ensures.does.committed
          ∙ c.loop-i.invariant.committed;
    }

pub returns-clause-does : goal.returns-clause-does
returns-clause-does c =
    let lsa = lsa_now c.args.moment c.args.copy.now in
    let P = map present c.args.links.now in
    let D = map draft_of c.args.links.now in
    let F = step c.args.moment c.args.incoming lsa in
    record {
      links = finished_items present draft_of (after_step c.args.moment c.args.incoming lsa)
          (after_draft c.args.moment c.args.incoming lsa)
          (counts c.args.moment c.args.incoming lsa)
          c.loop-i.i c.loop-i.links c.loop-i.sent
          (stepped_links F P) (drafted_from 1 (stepping_sends F P) P D)
          (is_any (stepping_sends F P))
          (omega (arith, c.loop-i-test.false, c.loop-i.auto.i-end, c.loop-i.auto.links))
          c.loop-i.invariant.floods;
      drafts = finished_drafts present draft_of (after_step c.args.moment c.args.incoming lsa)
          (after_draft c.args.moment c.args.incoming lsa)
          (counts c.args.moment c.args.incoming lsa)
          c.loop-i.i c.loop-i.links c.loop-i.sent
          (stepped_links F P) (drafted_from 1 (stepping_sends F P) P D)
          (is_any (stepping_sends F P))
          (omega (arith, c.loop-i-test.false, c.loop-i.auto.i-end, c.loop-i.auto.links))
          c.loop-i.invariant.floods;
      committed = c.loop-i.invariant.committed;
    }

pub returns-clause-sent : goal.returns-clause-sent
returns-clause-sent c =
    let lsa = lsa_now c.args.moment c.args.copy.now in
    let P = map present c.args.links.now in
    let D = map draft_of c.args.links.now in
    let F = step c.args.moment c.args.incoming lsa in
    finished_counts present draft_of (after_step c.args.moment c.args.incoming lsa)
    (after_draft c.args.moment c.args.incoming lsa) (counts c.args.moment c.args.incoming lsa)
    c.loop-i.i c.loop-i.links c.loop-i.sent
    (stepped_links F P) (drafted_from 1 (stepping_sends F P) P D)
    (is_any (stepping_sends F P))
    (omega (arith, c.loop-i-test.false, c.loop-i.auto.i-end, c.loop-i.auto.links))
    c.loop-i.invariant.floods
