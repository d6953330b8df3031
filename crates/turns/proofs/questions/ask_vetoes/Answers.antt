use Rattle.std.proofs.Common.{List, subst}
use Rattle.std.specs.List.{Contains}
use Rattle.std.specs.Prelude.{IfNone, IfSome}
use Rattle.words.specs.declared.route.Route.{Route}
use Rattle.words.specs.declared.route.TableRow.{TableRow}
use Rattle.hooks.specs.Questions.{veto_input}
use Rattle.turns.specs.Askers.{AreVetoes, asker_state}
use Rattle.turns.specs.Turns.{IsLacking, Lack}
use Rattle.turns.proofs.Away.{of_veto}
use Rattle.turns.proofs.questions.ask_vetoes.Goals as goal

pub returns-in-Some-clause-answers : goal.returns-in-Some-clause-answers
returns-in-Some-clause-answers g c =
    let old = asker_state c.args.asker.now c.args.seat.now in
    let new = asker_state c.vetoes.new.asker c.vetoes.new.seat in
    let rows = c.as_slice-rows.result.now in
    let routes = c.as_slice-routes.result.now in
    let answers = c.in-Some.answers.items in
    let all : AreVetoes old new c.args.moment rows routes answers =
    subst (λ o. IfSome o (λ answers. AreVetoes old new c.args.moment rows routes answers.items))
    c.in-Some.is c.in_ok-all.ensures.answered in
    let beside : List TableRow → Type 0 =
    λ l. AreVetoes old new c.args.moment l routes answers in
    let on : List Route → Type 0 =
    λ l. AreVetoes old new c.args.moment c.args.offered.now.rows.items l answers in
    subst on c.as_slice-routes.ensures.value (subst beside c.as_slice-rows.ensures.value all)

pub returns-in-None-clause-err : goal.returns-in-None-clause-err
returns-in-None-clause-err g c =
    let refuses = g.B.Taker.refuses in
    let rows = c.as_slice-rows.result.now in
    let one : (route : Route) × Contains c.as_slice-routes.result.now route
    × IsLacking refuses (Lack.Reading (veto_input route c.args.moment rows)) =
    subst (λ o. IfNone o ((route : Route) × Contains c.as_slice-routes.result.now route
    × IsLacking refuses (Lack.Reading (veto_input route c.args.moment rows)))) c.in-None.is
    c.in_ok-all.ensures.lacking in
    of_veto refuses one.0 c.args.moment rows one.2
