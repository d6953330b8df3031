use Rattle.std.proofs.Common.{refl}
use Rattle.std.proofs.lemmas.Result.{IfOk-weaker}
use Rattle.hooks.specs.Known.{known_to}
use Rattle.turns.specs.Askers.{asker_state}
use Rattle.turns.proofs.Askers.{later_there, later_trans}
use Rattle.turns.proofs.LetIn.{all_let_in}
use Rattle.turns.proofs.Sooner.{install_sooner}
use Rattle.turns.proofs.questions.install_if_vacant.Goals as goal

pub returns-in-Some-clause-event : goal.returns-in-Some-clause-event
returns-in-Some-clause-event g c =
    let routes = c.in_ok-candidates.candidates in
    let rows = c.in_ok-candidates.ensures.offered.0 in
    let answers = c.in-Some.answers in
    let vetoes =
    all_let_in c.args.seat.now c.args.moment rows (known_to c.args.asker.now)
    (known_to c.all_let_in.new.asker) routes answers c.all_let_in.ensures.known
    c.in-Some.ensures.all c.in-Some.ensures.answered in
    (routes, rows, answers, c.in_ok-candidates.ensures.offered.1, vetoes, refl)

pub returns-in-None-clause-event : goal.returns-in-None-clause-event
returns-in-None-clause-event g c =
    IfOk-weaker c.ask_about_candidates.result _ _
    (λ e. install_sooner (known_to c.args.asker.now) (known_to c.all_let_in.new.asker)
    c.args.seat.now
    (asker_state c.ask_about_candidates.new.asker c.ask_about_candidates.new.seat)
    c.all_let_in.ensures.known g.B.Taker.offers c.args.moment e)
    c.ask_about_candidates.ensures.event

pub returns-in-None-clause-later : goal.returns-in-None-clause-later
returns-in-None-clause-later g c =
    let between = asker_state c.all_let_in.new.asker c.args.seat.now in
    let old = asker_state c.args.asker.now c.args.seat.now in
    later_trans old between
    (asker_state c.ask_about_candidates.new.asker c.ask_about_candidates.new.seat)
    (later_there old between c.all_let_in.ensures.known refl)
    c.ask_about_candidates.ensures.later

pub returns-in-Some-clause-later : goal.returns-in-Some-clause-later
returns-in-Some-clause-later g c =
    later_there (asker_state c.args.asker.now c.args.seat.now)
    (asker_state c.all_let_in.new.asker c.args.seat.now) c.all_let_in.ensures.known refl
