use Rattle.std.proofs.Common.{map, ◌∙◌, arith}
use Rattle.std.proofs.lemmas.List.{length-map, take_all}
use Rattle.area.specs.Links.{committed_link, draft_of, present}
use Rattle.area.proofs.Copies.{copied_next}
use Rattle.area.proofs.Taken.{emptied, nothing_each}
use Rattle.area.proofs.area.copying.copy_links.Goals as goal

pub loop-i-preserved : goal.loop-i-preserved
loop-i-preserved c =
    let links = c.args.links.now in
    let link = c.index-links-i.result in
    let made = c.loop-i.made.items in
    let longer = c.push.new.self.items in
    record {
      shown = copied_next present present links made longer c.loop-i.i link c.in_ok-copy.field-0
          c.loop-i-test.true c.index-links-i.is c.in_ok-push.ensures.items
          c.in_ok-copy.ensures.present c.loop-i.invariant.shown;
      fresh = copied_next present committed_link links made longer c.loop-i.i link
          c.in_ok-copy.field-0 c.loop-i-test.true c.index-links-i.is c.in_ok-push.ensures.items
          c.in_ok-copy.ensures.committed c.loop-i.invariant.fresh;
      empty = copied_next emptied draft_of links made longer c.loop-i.i link c.in_ok-copy.field-0
          c.loop-i-test.true c.index-links-i.is c.in_ok-push.ensures.items
          c.in_ok-copy.ensures.draft c.loop-i.invariant.empty;
    }

pub returns-clause-drafts : goal.returns-clause-drafts
returns-clause-drafts c =
    let links = c.args.links.now in
    c.loop-i.invariant.empty
    ∙ take_all c.loop-i.i (map emptied links)
    (omega (arith, c.loop-i-test.false, c.loop-i.auto.i-end, length-map links emptied))
    ∙ nothing_each present links
