use Rattle.std.proofs.Common.{arith}
use Rattle.words.proofs.Each.{each_one_more}
use Rattle.lsa.specs.Text.{IsRouterId}
use Rattle.lsa.proofs.ranges.prove_router_ids.Goals as goal

pub loop-router-preserved : goal.loop-router-preserved
loop-router-preserved c =
    each_one_more IsRouterId c.args.routers.now c.loop-router.router-index c.router-item.result
    c.loop-router-test.true c.router-item.is (omega arith) c.loop-router.invariant
