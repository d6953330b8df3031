-- Runs in a row with one more run.
use Rattle.std.proofs.Common.{ℕ, List, [], ◌∷◌, ◌++◌, refl, subst, sym}
use Rattle.machine.specs.Given.{Given}
use Rattle.maps.specs.Words.{SeatView}
use Rattle.hooktool_trials.specs.Runs.{RunsInARow, RunsOnce}
use Rattle.hooktool_trials.specs.declared.runs.RunEnding.{RunEnding}

pub one_more : (bytes : List ℕ) (input : Given) (seat next last : SeatView)
    (endings : List RunEnding) (ending : RunEnding) → RunsInARow bytes input seat endings next
    → RunsOnce bytes input next ending last
    → RunsInARow bytes input seat (endings ++ ending ∷ []) last
one_more bytes input seat next last [] ending same once =
    (last, subst (λ (s : SeatView). RunsOnce bytes input s ending last) (sym same) once, refl)
one_more bytes input seat next last (first ∷ rest) ending (middle, begun, more) once =
    (middle, begun, one_more bytes input middle next last rest ending more once)
