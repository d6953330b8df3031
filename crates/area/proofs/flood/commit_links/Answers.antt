use Rattle.std.proofs.Common.{refl, sym, ap, ◌∙◌, arith}
use Rattle.area.specs.Links.{committed_link, draft_of, present}
use Rattle.area.proofs.Kept.{mixed_all, mixed_next, mixed_none, shows_kept}
use Rattle.area.proofs.Taken.{emptied, nothing_each}
use Rattle.area.proofs.flood.commit_links.Goals as goal

pub loop-i-init : goal.loop-i-init
loop-i-init c = record {
  stays = refl;
  comes = mixed_none committed_link present c.args.links.now;
  rest = mixed_none draft_of emptied c.args.links.now;
}

pub loop-i-preserved : goal.loop-i-preserved
loop-i-preserved c = record {
  stays = shows_kept present c.loop-i.links c.loop-i.i c.index-links-i.result c.commit.new.self
      c.index-links-i.is (ap present c.commit.ensures) ∙ c.loop-i.invariant.stays;
  comes = mixed_next committed_link present c.loop-i.i c.loop-i.links c.commit.new.self
      c.index-links-i.result (ap committed_link c.commit.ensures)
      (omega (arith, c.loop-i-test.true, c.loop-i.auto.links)) ∙ c.loop-i.invariant.comes;
  rest = mixed_next draft_of emptied c.loop-i.i c.loop-i.links c.commit.new.self
      c.index-links-i.result (ap draft_of c.commit.ensures)
      (omega (arith, c.loop-i-test.true, c.loop-i.auto.links)) ∙ c.loop-i.invariant.rest;
}

pub returns-clause-committed : goal.returns-clause-committed
returns-clause-committed c =
    sym (mixed_all committed_link present c.loop-i.i c.loop-i.links
    (omega (arith, c.loop-i-test.false, c.loop-i.auto.i-end, c.loop-i.auto.links)))
    ∙ c.loop-i.invariant.comes

pub returns-clause-drafts : goal.returns-clause-drafts
returns-clause-drafts c =
    sym (mixed_all draft_of emptied c.loop-i.i c.loop-i.links
    (omega (arith, c.loop-i-test.false, c.loop-i.auto.i-end, c.loop-i.auto.links)))
    ∙ c.loop-i.invariant.rest ∙ nothing_each present c.args.links.now
