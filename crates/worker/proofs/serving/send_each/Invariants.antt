use Rattle.std.specs.Prelude.{◌≡◌, ℕ}
use Rattle.worker.proofs.Sending.{GivenSoFar}
use Rattle.worker.proofs.serving.send_each.Given as goal

abbrev pub invariant-loop-out : goal.invariant-loop-out
invariant-loop-out g l = record {
  fine : ◌≡◌ {A = ℕ} (g.K.Transport.faults l.transport) (g.K.Transport.faults l.initial.transport);
  each : GivenSoFar g.K.Transport.gives l.outs.items l.out-index l.initial.transport l.transport;
}
