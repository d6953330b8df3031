use Rattle.std.proofs.Common.{List, [], ◌∷◌, ap, arith, length, length-append, subst, sym}
use Rattle.machine.specs.Given.{given_by}
use Rattle.hooktool_trials.proofs.InARow.{one_more}
use Rattle.hooktool_trials.proofs.runs.run_in_a_row.Goals as goal
use Rattle.hooktool_trials.specs.Runs.{RunsInARow}
use Rattle.hooktool_trials.specs.declared.runs.RunEnding.{RunEnding}

pub loop-turn-preserved : goal.loop-turn-preserved
loop-turn-preserved c =
    let held = c.loop-turn.invariant in
    let bytes = c.args.bytes.now in
    let input = given_by c.args.input.now in
    let items = c.in_ok-push.ensures.items in
    let ran = one_more bytes input c.args.seat.now c.loop-turn.seat c.run_once.new.seat
    c.loop-turn.endings.items c.in_ok-ending.ending held.2 c.in_ok-ending.ensures.ran in (
      c.in_ok-ending.ensures.table,
      omega (
        arith,
        ap length items,
        length-append c.loop-turn.endings.items
            (c.in_ok-ending.ending ∷ []),
        held.1,
      ),
      subst (λ (xs : List RunEnding). RunsInARow bytes input c.args.seat.now xs c.run_once.new.seat)
          (sym items) ran,
    )
