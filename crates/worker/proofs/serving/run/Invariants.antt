use Rattle.std.specs.Prelude.{◌≡◌, ℕ}
use Rattle.turns.specs.Askers.{IsLater, asker_state}
use Rattle.worker.specs.Lives.{Lives, senses_of, standing}
use Rattle.worker.proofs.serving.run.Given as goal

abbrev pub invariant-loop : goal.invariant-loop
invariant-loop g l = record {
  fine : ◌≡◌ {A = ℕ} (g.K.Transport.faults l.transport) (g.K.Transport.faults l.initial.transport);
  number : l.port.number ≡ l.initial.port.number;
  later : IsLater (asker_state l.initial.port.asker l.initial.port.seat)
      (asker_state l.port.asker l.port.seat);
  lived : (rounds : ℕ) × Lives (senses_of g.K.Transport.gives g.K.Transport.hears g.S.Seconds.shows
      g.B.Taker.offers g.B.Taker.took g.B.Taker.refuses l.initial.port.number) g.F.Flag.reads
      l.initial.quit
      (standing l.initial.transport l.initial.clock
      (asker_state l.initial.port.asker l.initial.port.seat)
      l.initial.port.share.amount)
      rounds l.ticked l.quit
      (standing l.transport l.clock (asker_state l.port.asker l.port.seat) l.port.share.amount);
}
