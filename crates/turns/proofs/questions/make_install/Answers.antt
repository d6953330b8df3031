use Rattle.std.proofs.Common.{refl}
use Rattle.std.proofs.lemmas.Result.{IfOk-weaker}
use Rattle.hooks.specs.Known.{known_to}
use Rattle.turns.specs.Askers.{asker_state}
use Rattle.turns.proofs.Askers.{later_there, later_trans}
use Rattle.turns.proofs.Sooner.{install_sooner}
use Rattle.turns.proofs.questions.make_install.Goals as goal

pub returns-in-Some-false-clause-event : goal.returns-in-Some-false-clause-event
returns-in-Some-false-clause-event g c =
    IfOk-weaker c.ask_about_candidates.result _ _
    (λ e. install_sooner (known_to c.args.asker.now) (known_to c.is_veto_vacant.new.self)
    c.args.seat.now
    (asker_state c.ask_about_candidates.new.asker c.ask_about_candidates.new.seat)
    c.is_veto_vacant.ensures.known g.B.Taker.offers c.args.moment e)
    c.ask_about_candidates.ensures.event

pub returns-in_default-clause-event : goal.returns-in_default-clause-event
returns-in_default-clause-event g c =
    IfOk-weaker c.install_if_vacant.result _ _
    (λ e. install_sooner (known_to c.args.asker.now) (known_to c.is_veto_vacant.new.self)
    c.args.seat.now
    (asker_state c.install_if_vacant.new.asker c.install_if_vacant.new.seat)
    c.is_veto_vacant.ensures.known g.B.Taker.offers c.args.moment e)
    c.install_if_vacant.ensures.event

pub returns-in-Some-false-clause-later : goal.returns-in-Some-false-clause-later
returns-in-Some-false-clause-later g c =
    let between = asker_state c.is_veto_vacant.new.self c.args.seat.now in
    let old = asker_state c.args.asker.now c.args.seat.now in
    later_trans old between (asker_state c.ask_about_candidates.new.asker
    c.ask_about_candidates.new.seat)
    (later_there old between c.is_veto_vacant.ensures.known refl)
    c.ask_about_candidates.ensures.later

pub returns-in_default-clause-later : goal.returns-in_default-clause-later
returns-in_default-clause-later g c =
    let between = asker_state c.is_veto_vacant.new.self c.args.seat.now in
    let old = asker_state c.args.asker.now c.args.seat.now in
    later_trans old between (asker_state c.install_if_vacant.new.asker c.install_if_vacant.new.seat)
    (later_there old between c.is_veto_vacant.ensures.known refl)
    c.install_if_vacant.ensures.later
