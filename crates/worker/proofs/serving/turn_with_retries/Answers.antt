use Rattle.std.proofs.Common.{arith, rules}
use Rattle.turns.specs.Askers.{asker_state}
use Rattle.turns.specs.Turns.{IsTurned, RefusesFor}
use Rattle.turns.proofs.Askers.{later_trans}
use Rattle.worker.specs.Refusals.{clock_back}
use Rattle.worker.proofs.Living.{at_last, once_more}
use Rattle.worker.proofs.Tries.{refused_so, tried_from}
use Rattle.worker.proofs.serving.turn_with_retries.Goals as goal

pub loop-tries-preserved : goal.loop-tries-preserved
loop-tries-preserved g c =
    let events = c.args.port.now.share.amount in
    let start = asker_state c.args.port.now.asker c.args.port.now.seat in
    let between = asker_state c.loop-tries.port.asker c.loop-tries.port.seat in
    let end = asker_state c.turn-turned.new.port.asker c.turn-turned.new.port.seat in
    let w = c.args.work.now in
    let offers = g.B.Taker.offers in
    record {
      events = search rules;
      number = search rules;
      later = later_trans start between end c.loop-tries.invariant.later
          c.turn-turned.ensures.later;
      so =
          once_more g.S.Seconds.shows
          (λ old new m error. RefusesFor offers g.B.Taker.refuses old new events m w error)
          c.args.clock.now start c.args.moment.now c.loop-tries.clock between
          c.loop-tries.moment c.loop-tries._tries c.second.new.self end c.second.result
          c.loop-tries.invariant.so
          (refused_so offers g.B.Taker.refuses between end events
          c.loop-tries.port.share.amount c.loop-tries.moment w c.turn-turned.result clock_back
          c.loop-tries.invariant.events
          (c.is_clock_back.ensures.back c.if-not-is_clock_back.false)
          c.turn-turned.ensures.refused)
          c.second.ensures;
    }

pub returns-then-not-is_clock_back-clause-tried : goal.returns-then-not-is_clock_back-clause-tried
returns-then-not-is_clock_back-clause-tried g c =
    let events = c.args.port.now.share.amount in
    let start = asker_state c.args.port.now.asker c.args.port.now.seat in
    let begun = asker_state c.loop-tries.port.asker c.loop-tries.port.seat in
    let end = asker_state c.turn-turned.new.port.asker c.turn-turned.new.port.seat in
    let w = c.args.work.now in
    let offers = g.B.Taker.offers in
    at_last g.S.Seconds.shows
    (λ old new m error. RefusesFor offers g.B.Taker.refuses old new events m w error)
    (λ old new m turned. IsTurned offers g.B.Taker.took g.B.Taker.refuses old new m w events
    c.turn-turned.new.port.share.amount turned)
    c.args.clock.now start c.args.moment.now c.loop-tries.clock begun end c.loop-tries.moment
    c.loop-tries._tries c.turn-turned.result c.loop-tries.invariant.so (omega arith)
    (λ back. absurd (c.is_clock_back.ensures.other c.if-not-is_clock_back.true back))
    c.loop-tries.invariant.later
    (tried_from offers g.B.Taker.took g.B.Taker.refuses begun end c.loop-tries.moment w events
    c.loop-tries.port.share.amount c.turn-turned.new.port.share.amount c.turn-turned.result
    c.loop-tries.invariant.events c.turn-turned.ensures.turned c.turn-turned.ensures.refused)

pub returns-clause-tried : goal.returns-clause-tried
returns-clause-tried g c =
    let events = c.args.port.now.share.amount in
    let start = asker_state c.args.port.now.asker c.args.port.now.seat in
    let begun = asker_state c.loop-tries.port.asker c.loop-tries.port.seat in
    let end = asker_state c.turn.new.port.asker c.turn.new.port.seat in
    let w = c.args.work.now in
    let offers = g.B.Taker.offers in
    at_last g.S.Seconds.shows
    (λ old new m error. RefusesFor offers g.B.Taker.refuses old new events m w error)
    (λ old new m turned. IsTurned offers g.B.Taker.took g.B.Taker.refuses old new m w events
    c.turn.new.port.share.amount turned)
    c.args.clock.now start c.args.moment.now c.loop-tries.clock begun end c.loop-tries.moment
    c.loop-tries._tries c.turn.result c.loop-tries.invariant.so (omega arith)
    (λ back. omega arith)
    c.loop-tries.invariant.later
    (tried_from offers g.B.Taker.took g.B.Taker.refuses begun end c.loop-tries.moment w events
    c.loop-tries.port.share.amount c.turn.new.port.share.amount c.turn.result
    c.loop-tries.invariant.events c.turn.ensures.turned c.turn.ensures.refused)

pub returns-then-not-is_clock_back-clause-later :
    goal.returns-then-not-is_clock_back-clause-later
returns-then-not-is_clock_back-clause-later g c =
    later_trans (asker_state c.args.port.now.asker c.args.port.now.seat)
    (asker_state c.loop-tries.port.asker c.loop-tries.port.seat)
    (asker_state c.turn-turned.new.port.asker c.turn-turned.new.port.seat)
    c.loop-tries.invariant.later c.turn-turned.ensures.later

pub returns-clause-later : goal.returns-clause-later
returns-clause-later g c =
    later_trans (asker_state c.args.port.now.asker c.args.port.now.seat)
    (asker_state c.loop-tries.port.asker c.loop-tries.port.seat)
    (asker_state c.turn.new.port.asker c.turn.new.port.seat)
    c.loop-tries.invariant.later c.turn.ensures.later
