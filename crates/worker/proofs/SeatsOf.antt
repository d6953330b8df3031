-- Seats of a table are those of what it equals.
use Rattle.std.proofs.Common.{◌≡◌, List, sym, subst}
use Rattle.std.specs.List.{All}
use Rattle.maps.specs.Words.{IsSeatOf, SeatView, SharedWords}

pub of_the_same : (words shared : SharedWords) (seats : List SeatView) → shared ≡ words
    → All (IsSeatOf words) seats → All (IsSeatOf shared) seats
of_the_same words shared seats same of_words =
    let P : SharedWords → Type 0 = λ these. All (IsSeatOf these) seats in
    subst P (sym same) of_words
