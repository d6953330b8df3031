use Rattle.std.proofs.Common.{ℕ, List, Option, refl, subst, sym}
use Rattle.turns.specs.Askers.{asker_state}
use Rattle.turns.specs.declared.work.Work.TheVariants.{Datagram}
use Rattle.worker.specs.Lives.{IsHandled, Serves, senses_of, standing}
use Rattle.worker.proofs.Living.{listened, on_ok, serves, turned_to}
use Rattle.worker.proofs.serving.listen.Goals as goal

pub returns-in_default-clause-listens : goal.returns-in_default-clause-listens
returns-in_default-clause-listens g c =
    let senses = senses_of g.K.Transport.gives g.K.Transport.hears g.S.Seconds.shows
    g.B.Taker.offers g.B.Taker.took g.B.Taker.refuses c.args.port.now.number in
    let before = standing c.args.transport.now c.args.clock.now
    (asker_state c.args.port.now.asker c.args.port.now.seat)
    c.args.port.now.share.amount in
    let after = standing c.receive.new.self c.args.clock.now
    (asker_state c.args.port.now.asker c.args.port.now.seat)
    c.args.port.now.share.amount in
    listened senses before after c.in_ok-heard.heard c.receive.new.self
    c.in_ok-heard.ensures.heard
    (subst (λ (heard : Option (List ℕ)). IsHandled senses heard after after) (sym c.in_default.is)
    refl)

pub returns-clause-listens : goal.returns-clause-listens
returns-clause-listens g c =
    let senses = senses_of g.K.Transport.gives g.K.Transport.hears g.S.Seconds.shows
    g.B.Taker.offers g.B.Taker.took g.B.Taker.refuses c.args.port.now.number in
    let before = standing c.args.transport.now c.args.clock.now
    (asker_state c.args.port.now.asker c.args.port.now.seat)
    c.args.port.now.share.amount in
    let after = standing c.send_turned.new.transport c.turn_with_retries-turned.new.clock
    (asker_state c.turn_with_retries-turned.new.port.asker c.turn_with_retries-turned.new.port.seat)
    c.turn_with_retries-turned.new.port.share.amount in
    let heard = standing c.receive.new.self c.args.clock.now
    (asker_state c.args.port.now.asker c.args.port.now.seat)
    c.args.port.now.share.amount in
    let shown = standing c.receive.new.self c.second-now.new.self
    (asker_state c.args.port.now.asker c.args.port.now.seat) c.args.port.now.share.amount in
    on_ok c.send_turned.result
    (λ sent. listened senses before after c.in_ok-heard.heard c.receive.new.self
    c.in_ok-heard.ensures.heard
    (subst (λ (h : Option (List ℕ)). IsHandled senses h heard after) (sym c.in-Some.is)
    (turned_to senses c.in-Some.bytes heard c.second-now.result c.second-now.new.self
    c.turn_with_retries-turned.new.moment after c.second-now.ensures
    (subst (λ (n : ℕ). Serves senses c.second-now.result (Datagram n c.in-Some.bytes) shown
    c.turn_with_retries-turned.new.moment after) c.number.ensures
    (serves senses c.second-now.result (Datagram c.number.result c.in-Some.bytes) shown
    c.turn_with_retries-turned.new.moment after c.turn_with_retries-turned.result
    c.turn_with_retries-turned.ensures.later
    c.turn_with_retries-turned.ensures.tried c.turn_with_retries-turned.ensures.asked
    c.turn_with_retries-turned.ensures.err sent)))))
    c.send_turned.ensures.sent
