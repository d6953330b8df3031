use Rattle.std.proofs.Common.{refl, sym, ap, ◌∙◌, arith}
use Rattle.area.specs.Links.{committed_link, draft_of, present}
use Rattle.area.proofs.Kept.{mixed_all, mixed_next, mixed_none, shows_kept}
use Rattle.area.proofs.Taken.{emptied, nothing_each}
use Rattle.area.proofs.flood.roll_back_links.Goals as goal

pub loop-i-init : goal.loop-i-init
loop-i-init c = record {
  stays = refl;
  comes = mixed_none present committed_link c.args.links.now;
  rest = mixed_none draft_of emptied c.args.links.now;
}

pub loop-i-preserved : goal.loop-i-preserved
loop-i-preserved c = record {
  stays = shows_kept committed_link c.loop-i.links c.loop-i.i c.index-links-i.result
      c.roll_back.new.self c.index-links-i.is (ap committed_link c.roll_back.ensures)
      ∙ c.loop-i.invariant.stays;
  comes = mixed_next present committed_link c.loop-i.i c.loop-i.links c.roll_back.new.self
      c.index-links-i.result (ap present c.roll_back.ensures)
      (omega (arith, c.loop-i-test.true, c.loop-i.auto.links)) ∙ c.loop-i.invariant.comes;
  rest = mixed_next draft_of emptied c.loop-i.i c.loop-i.links c.roll_back.new.self
      c.index-links-i.result (ap draft_of c.roll_back.ensures)
      (omega (arith, c.loop-i-test.true, c.loop-i.auto.links)) ∙ c.loop-i.invariant.rest;
}

pub returns-clause-present : goal.returns-clause-present
returns-clause-present c =
    sym (mixed_all present committed_link c.loop-i.i c.loop-i.links
    (omega (arith, c.loop-i-test.false, c.loop-i.auto.i-end, c.loop-i.auto.links)))
    ∙ c.loop-i.invariant.comes

pub returns-clause-drafts : goal.returns-clause-drafts
returns-clause-drafts c =
    sym (mixed_all draft_of emptied c.loop-i.i c.loop-i.links
    (omega (arith, c.loop-i-test.false, c.loop-i.auto.i-end, c.loop-i.auto.links)))
    ∙ c.loop-i.invariant.rest ∙ nothing_each committed_link c.args.links.now
