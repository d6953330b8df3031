-- The steps that a seat may make.
use Rattle.std.specs.Prelude.{◌≡◌, ◌≤◌, List, ◌++◌}
use Rattle.std.specs.List.{Contains}
use Rattle.machine.specs.Label.{Label, Spent}
use Rattle.maps.specs.declared.access.Access.{Access}
use Rattle.maps.specs.Access.{CellsFind, ReadsSee, adds_made}
use Rattle.maps.specs.Words.{SeatView}
use Rattle.helpers.specs.Seats.{SeatMakes, acts}

-- Each read of a counter found at least what the list knew about it, each load of a cell what was
-- last stored there, and there are at most 2^31 additions.
pub record IsLawfulList (list : List Access) : Type 0 where
  pub reads : ReadsSee list
  pub cells : CellsFind list
  pub few : adds_made list ≤ 2147483648

-- a seat whose list is lawful has a lawful one after any steps that it may make
abbrev pub SeatsStayLawful : Type 0
SeatsStayLawful =
    (old new : SeatView) (labels : List Label) → SeatMakes old labels new
    → IsLawfulList old.accesses → IsLawfulList new.accesses

-- an addition is refused only after the seat has made 2^31 of them
abbrev pub AdditionsAreRefusedLast : Type 0
AdditionsAreRefusedLast =
    (old new : SeatView) (labels : List Label) → SeatMakes old labels new → Contains labels Spent
    → 2147483648 ≤ adds_made new.accesses

-- The seat and its table stay the same, and its list grows only by the accesses of the steps.
pub record Grows (old : SeatView) (labels : List Label) (new : SeatView) : Type 0 where
  pub table : new.table ≡ old.table
  pub number : new.number ≡ old.number
  pub list : new.accesses ≡ old.accesses ++ acts labels

abbrev pub SeatsGrow : Type 0
SeatsGrow = (old new : SeatView) (labels : List Label) → SeatMakes old labels new
    → Grows old labels new
