use Rattle.std.proofs.Common.{◌+◌, ◌++◌, [], ◌∷◌, get_or, set, refl, sym, ap, ◌∙◌}
use Rattle.std.proofs.Common.{append-nil, append_assoc, arith}
use Rattle.adjacency.specs.Drafts.{Drafted}
use Rattle.area.specs.Links.{committed_link, draft_of, present}
use Rattle.area.proofs.Kept.{mixed_all, mixed_next, mixed_none, shows_kept}
use Rattle.area.proofs.Taken.{drafts_from, emptied, from_first, from_last, from_next}
use Rattle.area.proofs.Taken.{nothing_each}
use Rattle.area.proofs.flood.take_drafts.Goals as goal

pub loop-i-init : goal.loop-i-init
loop-i-init c = record {
  taken = ap (λ ds. ds ++ drafts_from 0 c.args.links.now) c.new-drafts.ensures.items
      ∙ from_first c.args.links.now;
  shown = refl;
  stays = refl;
  rest = mixed_none draft_of emptied c.args.links.now;
}

pub loop-i-preserved : goal.loop-i-preserved
loop-i-preserved c =
    let links = c.loop-i.links in
    let i = c.loop-i.i in
    let items = c.loop-i.drafts.items in
    let d = c.index-links-i.result in
    let x = get_or links i d in
    let y = c.take_draft-draft.new.self in
    let later = drafts_from (i + 1) (set links i y) in
    record {
      taken =
          ap (λ ds. ds ++ later) (c.in_ok-push.ensures.items
          ∙ ap (λ (e : Drafted). items ++ e ∷ []) c.take_draft-draft.ensures.draft)
          ∙ append_assoc items (x.drafted ∷ []) later
          ∙ ap (λ ds. items ++ ds) (sym (from_next i links y d
          (omega (arith, c.loop-i-test.true, c.loop-i.auto.links))))
          ∙ c.loop-i.invariant.taken;
      shown = shows_kept present links i d y c.index-links-i.is
          (ap present c.take_draft-draft.ensures.link) ∙ c.loop-i.invariant.shown;
      stays = shows_kept committed_link links i d y c.index-links-i.is
          (ap committed_link c.take_draft-draft.ensures.link) ∙ c.loop-i.invariant.stays;
      rest = mixed_next draft_of emptied i links y d
          (ap draft_of c.take_draft-draft.ensures.link)
          (omega (arith, c.loop-i-test.true, c.loop-i.auto.links)) ∙ c.loop-i.invariant.rest;
    }

pub returns-in_err-push-clause-present : goal.returns-in_err-push-clause-present
returns-in_err-push-clause-present c =
    shows_kept present c.loop-i.links c.loop-i.i c.index-links-i.result
    c.take_draft-draft.new.self c.index-links-i.is (ap present c.take_draft-draft.ensures.link)
    ∙ c.loop-i.invariant.shown

pub returns-in_err-push-clause-committed : goal.returns-in_err-push-clause-committed
returns-in_err-push-clause-committed c =
    shows_kept committed_link c.loop-i.links c.loop-i.i c.index-links-i.result
    c.take_draft-draft.new.self c.index-links-i.is
    (ap committed_link c.take_draft-draft.ensures.link)
    ∙ c.loop-i.invariant.stays

pub returns-clause-drafts : goal.returns-clause-drafts
returns-clause-drafts c =
    let items = c.loop-i.drafts.items in
    sym (append-nil items)
    ∙ ap (λ ds. items ++ ds) (sym (from_last c.loop-i.i c.loop-i.links
    (omega (arith, c.loop-i-test.false, c.loop-i.auto.i-end, c.loop-i.auto.links))))
    ∙ c.loop-i.invariant.taken

pub returns-clause-rest : goal.returns-clause-rest
returns-clause-rest c =
    sym (mixed_all draft_of emptied c.loop-i.i c.loop-i.links
    (omega (arith, c.loop-i-test.false, c.loop-i.auto.i-end, c.loop-i.auto.links)))
    ∙ c.loop-i.invariant.rest ∙ nothing_each present c.args.links.now
