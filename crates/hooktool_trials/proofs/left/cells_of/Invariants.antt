use Rattle.std.proofs.Common.{◌≡◌, ◌<◌, ℕ, length, slice_index}
use Rattle.maps.specs.Access.{last_stored}
use Rattle.maps.specs.Words.{IsSeatOf}
use Rattle.hooktool_trials.proofs.left.cells_of.Given as goal
use Rattle.hooktool_trials.specs.Runs.{SameNumbers}

-- the seat knows what it knew, and the cells below the index are read
abbrev pub invariant-loop-index : goal.invariant-loop-index
invariant-loop-index l = IsSeatOf l.shared l.seat × SameNumbers l.fn.seat l.seat
    × (length l.cells ≡ 64)
    × ((j : ℕ) → j < l.index → slice_index l.cells j ≡ last_stored j l.fn.seat.accesses)
