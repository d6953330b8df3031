use Rattle.turns.specs.Askers.{asker_state}
use Rattle.turns.specs.declared.work.Work.TheVariants.{Tick}
use Rattle.worker.specs.Lives.{senses_of, standing}
use Rattle.worker.proofs.Living.{serves, ticked_then, ticks_now}
use Rattle.worker.proofs.serving.tick.Goals as goal

pub returns-then-has_ticked-clause-ticks : goal.returns-then-has_ticked-clause-ticks
returns-then-has_ticked-clause-ticks g c =
    let senses = senses_of g.K.Transport.gives g.K.Transport.hears g.S.Seconds.shows
    g.B.Taker.offers g.B.Taker.took g.B.Taker.refuses c.args.port.now.number in
    let before = standing c.args.transport.now c.args.clock.now
    (asker_state c.args.port.now.asker c.args.port.now.seat)
    c.args.port.now.share.amount in
    ticked_then senses c.args.ticked.now before c.second-now.result c.second-now.new.self
    c.second-now.ensures (c.has_ticked.ensures.same c.if-has_ticked.true)

pub returns-clause-ticks : goal.returns-clause-ticks
returns-clause-ticks g c =
    let senses = senses_of g.K.Transport.gives g.K.Transport.hears g.S.Seconds.shows
    g.B.Taker.offers g.B.Taker.took g.B.Taker.refuses c.args.port.now.number in
    let before = standing c.args.transport.now c.args.clock.now
    (asker_state c.args.port.now.asker c.args.port.now.seat)
    c.args.port.now.share.amount in
    let after = standing c.send_turned.new.transport c.turn_with_retries-turned.new.clock
    (asker_state c.turn_with_retries-turned.new.port.asker c.turn_with_retries-turned.new.port.seat)
    c.turn_with_retries-turned.new.port.share.amount in
    ticks_now senses c.args.ticked.now before c.second-now.result c.second-now.new.self
    c.turn_with_retries-turned.new.moment after c.second-now.ensures
    (c.has_ticked.ensures.other c.if-has_ticked.false)
    (serves senses c.second-now.result Tick
    (standing c.args.transport.now c.second-now.new.self
    (asker_state c.args.port.now.asker c.args.port.now.seat)
    c.args.port.now.share.amount)
    c.turn_with_retries-turned.new.moment after c.turn_with_retries-turned.result
    c.turn_with_retries-turned.ensures.later
    c.turn_with_retries-turned.ensures.tried c.turn_with_retries-turned.ensures.asked
    c.turn_with_retries-turned.ensures.err
    c.in_ok-send_turned.ensures.sent)
