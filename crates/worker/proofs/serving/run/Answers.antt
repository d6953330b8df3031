use Rattle.std.proofs.Common.{refl, rules, subst}
use Rattle.turns.specs.Askers.{asker_state}
use Rattle.turns.proofs.Askers.{later_self, later_trans}
use Rattle.worker.specs.Lives.{Round, senses_of, standing}
use Rattle.worker.proofs.Living.{has_lived_on, lives_on}
use Rattle.worker.proofs.serving.run.Goals as goal

pub loop-init : goal.loop-init
loop-init g c = record {
  fine = refl;
  number = refl;
  later = later_self (asker_state c.args.port.now.asker c.args.port.now.seat);
  lived = (0, (refl, refl, refl));
}

pub loop-preserved : goal.loop-preserved
loop-preserved g c =
    let senses = senses_of g.K.Transport.gives g.K.Transport.hears g.S.Seconds.shows
    g.B.Taker.offers g.B.Taker.took g.B.Taker.refuses in
    let now = standing c.loop.transport c.loop.clock
    (asker_state c.loop.port.asker c.loop.port.seat)
    c.loop.port.share.amount in
    let then = standing c.round.new.transport c.round.new.clock
    (asker_state c.round.new.port.asker c.round.new.port.seat)
    c.round.new.port.share.amount in
    record {
      fine = search rules;
      number = search rules;
      later = later_trans (asker_state c.args.port.now.asker c.args.port.now.seat)
          (asker_state c.loop.port.asker c.loop.port.seat)
          (asker_state c.round.new.port.asker c.round.new.port.seat)
          c.loop.invariant.later c.round.ensures.later;
      lived = lives_on (senses c.args.port.now.number) g.F.Flag.reads c.args.quit.now
          (standing c.args.transport.now c.args.clock.now
          (asker_state c.args.port.now.asker c.args.port.now.seat)
          c.args.port.now.share.amount)
          c.loop.ticked c.loop.quit now c.round.new.ticked c.is_set.new.self then
          c.loop.invariant.lived
          (subst (λ b. g.F.Flag.reads c.loop.quit b c.is_set.new.self) c.if-is_set.false
          c.is_set.ensures)
          (subst (λ n. Round (senses n) c.loop.ticked now c.round.new.ticked then)
          c.loop.invariant.number c.in-Ok.ensures.round);
    }

pub returns-in_default-clause-lived_on : goal.returns-in_default-clause-lived_on
returns-in_default-clause-lived_on g c fault =
    has_lived_on (senses_of g.K.Transport.gives g.K.Transport.hears g.S.Seconds.shows
    g.B.Taker.offers g.B.Taker.took g.B.Taker.refuses c.args.port.now.number)
    g.F.Flag.reads c.args.quit.now
    (standing c.args.transport.now c.args.clock.now
    (asker_state c.args.port.now.asker c.args.port.now.seat)
    c.args.port.now.share.amount)
    c.loop.ticked c.loop.quit c.is_set.new.self
    (standing c.loop.transport c.loop.clock (asker_state c.loop.port.asker c.loop.port.seat)
    c.loop.port.share.amount)
    c.loop.invariant.lived
    (subst (λ b. g.F.Flag.reads c.loop.quit b c.is_set.new.self) c.if-is_set.false
    c.is_set.ensures)

pub returns-in_default-clause-later : goal.returns-in_default-clause-later
returns-in_default-clause-later g c =
    later_trans (asker_state c.args.port.now.asker c.args.port.now.seat)
    (asker_state c.loop.port.asker c.loop.port.seat)
    (asker_state c.round.new.port.asker c.round.new.port.seat)
    c.loop.invariant.later c.round.ensures.later
