use Rattle.std.proofs.Common.{arith}
use Rattle.daemon.proofs.Alike.{paired}
use Rattle.daemon.proofs.crew.crew.Goals as goal

pub start_workers-requires-after_bounds : goal.start_workers-requires-after_bounds
start_workers-requires-after_bounds g c κs within =
    paired (λ p. p.number) (λ l. l.own) c.args.ports.items c.pop.new.self.items c.in-Some.first
    c.args.transports.items
    c.in-Some.ensures.items c.requires.numbers c.requires.interfaces
    (omega (arith, c.requires.transports, c.args.ports.ok.0, c.args.transports.ok.0))
