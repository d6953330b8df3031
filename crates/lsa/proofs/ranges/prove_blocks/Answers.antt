use Rattle.words.proofs.Each.{each_one_more}
use Rattle.lsa.specs.Ranges.{ExternalTosIsTyped}
use Rattle.lsa.proofs.ranges.prove_blocks.Goals as goal

pub loop-block-preserved : goal.loop-block-preserved
loop-block-preserved c =
    each_one_more ExternalTosIsTyped c.args.blocks.now c.loop-block.block-index c.block-item.result
    c.loop-block-test.true c.block-item.is c.prove_block.ensures c.loop-block.invariant
