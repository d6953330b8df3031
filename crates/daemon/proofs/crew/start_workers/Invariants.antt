use Rattle.std.specs.Prelude.{◌≡◌, ◌+◌, map, vec_len}
use Rattle.daemon.proofs.crew.start_workers.Given as goal

abbrev pub invariant-loop-port : goal.invariant-loop-port
invariant-loop-port g l =
    (vec_len l.ports + vec_len l.running ≡ vec_len l.fn.ports)
    × (map (λ p. p.number) l.ports.items ≡ map (λ transport. transport.own) l.transports.items)

abbrev pub decreases-loop-port : goal.decreases-loop-port
decreases-loop-port g l = vec_len l.ports
