use Rattle.std.proofs.Common.{arith}
use Rattle.worker.proofs.Binding.{one_more}
use Rattle.worker.proofs.sockets.wire.bind_each_with.Goals as goal

pub loop-configured-preserved : goal.loop-configured-preserved
loop-configured-preserved g c =
    one_more g.B.BindsSockets.bound c.args.interfaces.now c.loop-configured.configured-index
    c.loop-configured.wires.items
    c.push.new.self.items c.configured-item.result c.in_ok-wire.wire c.loop-configured.invariant
    (omega (arith, c.loop-configured-test)) c.configured-item.is c.in_ok-push.ensures.items
    c.in_ok-wire.ensures.wire
