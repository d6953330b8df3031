-- The exact counters.
use Rattle.std.specs.Prelude.{◌≡◌, ℕ, ◌<◌, List, length, slice_index}
use Rattle.std.specs.List.{sum_by}
use Rattle.maps.specs.Access.{adds_to}
use Rattle.maps.specs.Words.{SeatView}

-- the sums of what these seats added to each of the 256 counters
pub record AreTotals (seats : List SeatView) (sums : List ℕ) : Type 0 where
  pub all : length sums ≡ 256
  pub each : (k : ℕ) → k < 256 → slice_index sums k ≡ sum_by (λ s. adds_to k s.accesses) seats
