use Rattle.words.proofs.Each.{each_one_more}
use Rattle.lsa.specs.Headers.{IsHeader}
use Rattle.packet.proofs.ranges.prove_headers.Goals as goal

pub loop-header-preserved : goal.loop-header-preserved
loop-header-preserved c =
    each_one_more IsHeader c.args.headers.now c.loop-header.header-index c.header-item.result
    c.loop-header-test.true c.header-item.is c.prove_ranges.ensures c.loop-header.invariant
