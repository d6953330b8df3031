use Rattle.words.proofs.Each.{each_one_more}
use Rattle.packet.specs.Text.{IsKey}
use Rattle.packet.proofs.ranges.prove_keys.Goals as goal

pub loop-key-preserved : goal.loop-key-preserved
loop-key-preserved c =
    each_one_more IsKey c.args.keys.now c.loop-key.key-index c.key-item.result c.loop-key-test.true
    c.key-item.is c.prove_key.ensures c.loop-key.invariant
