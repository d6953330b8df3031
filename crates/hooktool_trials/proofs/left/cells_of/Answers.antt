use Rattle.std.proofs.Common.{◌∙◌, ap, arith, subst, sym}
use Rattle.std.proofs.lemmas.List.{length-set}
use Rattle.maps.specs.Access.{last_stored}
use Rattle.maps.specs.Words.{SeatView}
use Rattle.hooktool_trials.proofs.Same.{loaded, read_more}
use Rattle.hooktool_trials.proofs.left.cells_of.Goals as goal
use Rattle.hooktool_trials.specs.Runs.{SameNumbers}

pub loop-index-preserved : goal.loop-index-preserved
loop-index-preserved c =
    let held = c.loop-index.invariant in
    let fn = c.args.seat.now in (
      ap (λ (s : SeatView). s.table) c.cell.ensures.noted ∙ held.0,
      subst (λ (s : SeatView). SameNumbers fn s) (sym c.cell.ensures.noted)
          (loaded fn c.loop-index.seat c.loop-index.index c.cell.result held.1),
      length-set c.loop-index.cells c.loop-index.index c.cell.result ∙ held.2,
      read_more c.loop-index.cells c.loop-index.index c.cell.result (λ j. last_stored j fn.accesses)
          (omega (arith, held.2, c.loop-index-test.true))
          (c.cell.ensures.value ∙ held.1.cells c.loop-index.index) held.3,
    )
