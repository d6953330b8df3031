-- What is done to counters and cells before a program runs.
use Rattle.std.specs.Prelude.{◌≡◌, ◌≤◌, ◌<◌, ◌^◌, ◌⊎◌, List}
use Rattle.maps.specs.Access.{adds_made}
use Rattle.maps.specs.Words.{SeatView, seat_after}
use Rattle.maps.specs.declared.access.Access.TheVariants.{Add, SetCell}
use Rattle.hooktool_trials.specs.Chains.{Chain}
use Rattle.hooktool_trials.specs.declared.settings.Setting.{Setting}

-- The number is added to the counter. (A seat makes 2^31 adds, and of amounts below 2^24.)
abbrev pub AddsOne : Setting → SeatView → SeatView → Type 0
AddsOne setting old new = (setting.number < 2 ^ 24 → adds_made old.accesses < 2 ^ 31
    → new ≡ seat_after old (Add setting.index setting.number))
    × ((2 ^ 24 ≤ setting.number) ⊎ (2 ^ 31 ≤ adds_made old.accesses) → new ≡ old)

abbrev pub Adds : List Setting → SeatView → SeatView → Type 0
Adds = Chain AddsOne

-- The number is stored in the cell.
abbrev pub StoresOne : Setting → SeatView → SeatView → Type 0
StoresOne setting old new =
    (setting.index < 64 → new ≡ seat_after old (SetCell setting.index setting.number))
    × (64 ≤ setting.index → new ≡ old)

abbrev pub Stores : List Setting → SeatView → SeatView → Type 0
Stores = Chain StoresOne

-- First the one, and then the other.
abbrev pub IsSetUp : (counters cells : List Setting) → SeatView → SeatView → Type 0
IsSetUp counters cells old new =
    (next : SeatView) × Adds counters old next × Stores cells next new
