use Rattle.std.specs.Prelude.{take}
use Rattle.worker.specs.Wires.{AreBound}
use Rattle.worker.proofs.sockets.wire.bind_each_with.Given as goal

abbrev pub invariant-loop-configured : goal.invariant-loop-configured
invariant-loop-configured g l =
    AreBound g.B.BindsSockets.bound (take l.configured-index l.interfaces) l.wires.items
