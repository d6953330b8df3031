use Rattle.std.specs.Prelude.{◌≡◌, ◌+◌, ◌-◌, All, length, map, vec_len}
use Rattle.worker.specs.Descending.{CountDownTo}
use Rattle.worker.specs.Wires.{IsListening}
use Rattle.worker.proofs.sockets.socket_transports.listening_with.Given as goal

abbrev pub invariant-loop-before : goal.invariant-loop-before
invariant-loop-before g l = record {
  each : vec_len l.transports ≡ l.before;
  interfaces : CountDownTo (length l.wires - l.before + 1)
      (map (λ transport. transport.own) l.transports.items);
  wires : All (λ transport. (transport.wires.now ≡ l.wires) × (transport.faults ≡ 0))
      l.transports.items;
  ears : All (λ transport. IsListening g.P.ListensAt.listens l.wires transport.own transport.ear)
      l.transports.items;
}
