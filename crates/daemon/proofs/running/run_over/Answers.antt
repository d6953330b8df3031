use Rattle.std.proofs.Common.{◌≡◌, All, sym, subst}
use Rattle.daemon.proofs.running.run_over.Goals as goal

pub operate_at_same-requires-clause-transports : goal.operate_at_same-requires-clause-transports
operate_at_same-requires-clause-transports g c κs within =
    subst (λ wires. All (λ l. (l.wires.now ≡ wires) × (l.faults ≡ 0))
    c.in_ok-transports.transports.items)
    (sym c.of_console-own.ensures.2) c.in_ok-transports.ensures.wires
