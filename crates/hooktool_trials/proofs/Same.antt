-- Loads of cells change nothing that a seat knows.
use Rattle.std.proofs.Common.{◌≡◌, ◌∙◌, ◌<◌, ◌+◌, ℕ, List, [], ◌∷◌, ap, arith, length, refl, sym}
use Rattle.std.proofs.Common.{⊎_elim}
use Rattle.std.specs.Prelude.{slice_index, slice_set}
use Rattle.std.proofs.lemmas.Bool.{cases_lt}
use Rattle.std.proofs.lemmas.Grind.{get_or-set_at}
use Rattle.std.proofs.lemmas.List.{get_or-set_other}
use Rattle.std.proofs.lemmas.List.Sums.{fold-append, sum_by_push}
use Rattle.maps.specs.Access.{amount_added, cell_after}
use Rattle.maps.specs.Words.{SeatView, seat_after}
use Rattle.maps.specs.declared.access.Access.TheVariants.{Cell}
use Rattle.hooktool_trials.specs.Runs.{SameNumbers}

pub same_itself : (seat : SeatView) → SameNumbers seat seat
same_itself seat = record { counters = λ k. refl; cells = λ j. refl }

pub loaded : (before seat : SeatView) (i w : ℕ) → SameNumbers before seat
    → SameNumbers before (seat_after seat (Cell i w))
loaded before seat i w same = record {
  counters = λ k.
      let pushed = sum_by_push (amount_added k) seat.accesses (Cell i w) in
      omega (arith, pushed, same.counters k);
  cells = λ j. fold-append (cell_after j) 0 seat.accesses (Cell i w ∷ []) ∙ same.cells j;
}

-- one more number is read
pub read_more : (read : List ℕ) (i v : ℕ) (f : ℕ → ℕ) → i < length read → v ≡ f i
    → ((j : ℕ) → j < i → slice_index read j ≡ f j) → (j : ℕ) → j < i + 1
    → slice_index (slice_set read i v) j ≡ f j
read_more read i v f lt e below j le =
    ⊎_elim (λ lower. get_or-set_other read i j v 0 (λ same. absurd (omega (arith, same, lower)))
    ∙ below j lower)
    (λ upper. let same : j ≡ i = omega (arith, upper, le) in
    get_or-set_at read i j v 0 same lt ∙ e ∙ ap f (sym same))
    (cases_lt j i)
