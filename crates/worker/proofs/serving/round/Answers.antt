use Rattle.turns.specs.Askers.{asker_state}
use Rattle.turns.proofs.Askers.{later_trans}
use Rattle.worker.specs.Lives.{standing}
use Rattle.worker.proofs.Living.{in_turn}
use Rattle.worker.proofs.serving.round.Goals as goal

pub returns-clause-round : goal.returns-clause-round
returns-clause-round g c =
    in_turn g.K.Transport.gives g.K.Transport.hears g.S.Seconds.shows g.B.Taker.offers
    g.B.Taker.took g.B.Taker.refuses
    c.args.port.now.number c.tick.new.port.number c.args.ticked.now
    (standing c.args.transport.now c.args.clock.now
    (asker_state c.args.port.now.asker c.args.port.now.seat)
    c.args.port.now.share.amount)
    c.tick.new.ticked
    (standing c.tick.new.transport c.tick.new.clock
    (asker_state c.tick.new.port.asker c.tick.new.port.seat)
    c.tick.new.port.share.amount)
    (standing c.listen.new.transport c.listen.new.clock
    (asker_state c.listen.new.port.asker c.listen.new.port.seat)
    c.listen.new.port.share.amount)
    c.listen.result c.tick.ensures.number c.in_ok-tick.ensures.ticks
    c.listen.ensures.listens

pub returns-clause-later : goal.returns-clause-later
returns-clause-later g c =
    later_trans (asker_state c.args.port.now.asker c.args.port.now.seat)
    (asker_state c.tick.new.port.asker c.tick.new.port.seat)
    (asker_state c.listen.new.port.asker c.listen.new.port.seat)
    c.tick.ensures.later c.listen.ensures.later
