use Rattle.std.proofs.Common.{subst}
use Rattle.words.proofs.Each.{each_one_more}
use Rattle.words.specs.Fields.{AreBytes}
use Rattle.packet.proofs.ranges.prove_lsas.Goals as goal

pub loop-lsa-preserved : goal.loop-lsa-preserved
loop-lsa-preserved c =
    each_one_more AreBytes c.args.lsas.now c.loop-lsa.lsa-index c.lsa-item.result
    c.loop-lsa-test.true c.lsa-item.is (subst AreBytes c.as_slice.ensures c.prove_bytes.ensures)
    c.loop-lsa.invariant
