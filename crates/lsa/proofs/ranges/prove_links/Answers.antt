use Rattle.words.proofs.Each.{each_one_more}
use Rattle.lsa.specs.Ranges.{LinkIsTyped}
use Rattle.lsa.proofs.ranges.prove_links.Goals as goal

pub loop-link-preserved : goal.loop-link-preserved
loop-link-preserved c =
    each_one_more LinkIsTyped c.args.links.now c.loop-link.link-index c.link-item.result
    c.loop-link-test.true c.link-item.is c.prove_link.ensures c.loop-link.invariant
