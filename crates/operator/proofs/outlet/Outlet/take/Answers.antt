use Rattle.std.proofs.Common.{refl}
use Rattle.turns.specs.Askers.{asker_state}
use Rattle.worker.specs.Lives.{senses_of, standing}
use Rattle.operator.proofs.Done.{done, served, unserved}
use Rattle.operator.proofs.outlet.Outlet.take.Goals as goal

pub returns-clause-taken : goal.returns-clause-taken
returns-clause-taken g c =
    done g.C.Seconds.shows g.B.Taker.offers g.B.Taker.took g.B.Taker.refuses c.args.work.now
    c.second-moment.new.self (asker_state c.args.port.now.asker c.args.port.now.seat)
    c.second-moment.result c.turn_with_retries.new.clock
    (asker_state c.turn_with_retries.new.port.asker c.turn_with_retries.new.port.seat)
    c.turn_with_retries.new.moment c.args.port.now.share.amount
    c.turn_with_retries.new.port.share.amount c.turn_with_retries.result
    c.turn_with_retries.ensures.tried c.in_ok-turned.turned c.in_ok-turned.was

pub returns-in_err-turned-clause-served : goal.returns-in_err-turned-clause-served
returns-in_err-turned-clause-served g c fine =
    let senses = senses_of g.K.Transport.gives g.K.Transport.hears g.C.Seconds.shows
    g.B.Taker.offers g.B.Taker.took g.B.Taker.refuses c.args.port.now.number in
    unserved senses c.args.work.now
    (standing c.args.self.now.transport c.args.self.now.clock
    (asker_state c.args.port.now.asker c.args.port.now.seat) c.args.port.now.share.amount)
    (standing c.args.self.now.transport c.turn_with_retries.new.clock
    (asker_state c.turn_with_retries.new.port.asker c.turn_with_retries.new.port.seat)
    c.turn_with_retries.new.port.share.amount)
    c.second-moment.result c.second-moment.new.self c.turn_with_retries.new.moment
    c.turn_with_retries.result c.second-moment.ensures c.turn_with_retries.ensures.later
    c.turn_with_retries.ensures.tried c.turn_with_retries.ensures.asked
    _ c.in_err-turned.was refl c.in_err-turned.ensures.err

pub returns-clause-served : goal.returns-clause-served
returns-clause-served g c fine =
    let senses = senses_of g.K.Transport.gives g.K.Transport.hears g.C.Seconds.shows
    g.B.Taker.offers g.B.Taker.took g.B.Taker.refuses c.args.port.now.number in
    served senses c.args.work.now
    (standing c.args.self.now.transport c.args.self.now.clock
    (asker_state c.args.port.now.asker c.args.port.now.seat) c.args.port.now.share.amount)
    (standing c.send.new.transport c.turn_with_retries.new.clock
    (asker_state c.turn_with_retries.new.port.asker c.turn_with_retries.new.port.seat)
    c.turn_with_retries.new.port.share.amount)
    c.second-moment.result c.second-moment.new.self c.turn_with_retries.new.moment
    c.turn_with_retries.result c.second-moment.ensures c.turn_with_retries.ensures.later
    c.turn_with_retries.ensures.tried c.turn_with_retries.ensures.asked
    c.in_ok-turned.turned c.in_ok-turned.was (c.send.ensures.sent fine)
