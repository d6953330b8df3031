use Rattle.std.proofs.Common.{◌-◌, arith, drop, length, length-drop, subst}
use Rattle.std.proofs.lemmas.List.{take_all}
use Rattle.routes.specs.Tables.{RouteWords}
use Rattle.routes.proofs.InTurn.{AreMet, more_met}
use Rattle.routes.proofs.shared.answered_in_pages.Goals as goal

pub loop-met-init : goal.loop-met-init
loop-met-init c k r low is = absurd (omega (arith, low))

pub loop-met-preserved : goal.loop-met-preserved
loop-met-preserved c =
    let answers = c.args.answers.now in
    let met = c.loop-met.met in
    let part = c.part_from.result.now in
    let same = c.answered_in_turn-same.result in
    let rest = take_all (length answers - met) (drop met answers)
    (omega (arith, length-drop met answers)) in
    more_met answers c.args.candidates.now met same part c.part_from.ensures
    c.answered_in_turn-same.ensures.within
    (subst (λ (behind : RouteWords). AreMet behind part same) rest
    c.answered_in_turn-same.ensures.each)
    c.loop-met.invariant
