use Rattle.std.specs.Prelude.{◌≡◌}
use Rattle.turns.specs.Askers.{IsLater, asker_state}
use Rattle.turns.specs.Turns.{RefusesFor}
use Rattle.worker.proofs.Living.{IsTriedSo}
use Rattle.worker.proofs.serving.turn_with_retries.Given as goal

abbrev pub invariant-loop-tries : goal.invariant-loop-tries
invariant-loop-tries g l = record {
  events : l.port.share.amount ≡ l.initial.port.share.amount;
  number : l.port.number ≡ l.initial.port.number;
  later : IsLater (asker_state l.initial.port.asker l.initial.port.seat)
      (asker_state l.port.asker l.port.seat);
  so : IsTriedSo g.S.Seconds.shows
      (λ old new m error. RefusesFor g.B.Taker.offers g.B.Taker.refuses old new
      l.initial.port.share.amount m l.initial.work error)
      l.initial.clock (asker_state l.initial.port.asker l.initial.port.seat) l.initial.moment
      l.clock (asker_state l.port.asker l.port.seat) l.moment l._tries;
}
