use Rattle.std.proofs.Common.{refl}
use Rattle.std.proofs.lemmas.Result.{IfOk-weaker}
use Rattle.hooks.specs.Known.{known_to}
use Rattle.turns.specs.Askers.{asker_state}
use Rattle.turns.proofs.Askers.{later_there, later_trans}
use Rattle.turns.proofs.Configured.{configured}
use Rattle.turns.proofs.Sooner.{redistribute_sooner}
use Rattle.turns.proofs.questions.make_redistribute.Goals as goal

pub returns-in-Some-clause-event : goal.returns-in-Some-clause-event
returns-in-Some-clause-event g c =
    configured g.B.Taker.offers (known_to c.args.asker.now) _ c.args.seat.now c.args.external.now
    c.args.moment _ _
    c.in-Some.ensures.tag c.in-Some.ensures.price c.in-Some.ensures.tagged c.in-Some.ensures.priced

pub returns-in-None-clause-event : goal.returns-in-None-clause-event
returns-in-None-clause-event g c =
    IfOk-weaker c.ask_about_external.result _ _
    (λ e. redistribute_sooner (known_to c.args.asker.now) (known_to c.configured.new.self)
    c.args.seat.now
    (asker_state c.ask_about_external.new.asker c.ask_about_external.new.seat)
    c.configured.ensures.known g.B.Taker.offers c.args.external.now c.args.moment e)
    c.ask_about_external.ensures.event

pub returns-in-None-clause-later : goal.returns-in-None-clause-later
returns-in-None-clause-later g c =
    let between = asker_state c.configured.new.self c.args.seat.now in
    let old = asker_state c.args.asker.now c.args.seat.now in
    later_trans old between
    (asker_state c.ask_about_external.new.asker c.ask_about_external.new.seat)
    (later_there old between c.configured.ensures.known refl) c.ask_about_external.ensures.later

pub returns-in-Some-clause-later : goal.returns-in-Some-clause-later
returns-in-Some-clause-later g c =
    later_there (asker_state c.args.asker.now c.args.seat.now)
    (asker_state c.configured.new.self c.args.seat.now) c.configured.ensures.known refl
