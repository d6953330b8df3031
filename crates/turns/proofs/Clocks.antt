-- A book that began before the end of the clock is never at it.
use Rattle.std.proofs.Common.{ℕ, ◌<◌, ◌≤◌, arith}
use Rattle.std.specs.Prelude.{max}
use Rattle.words.specs.Constants.{clock_end}
use Rattle.flood.proofs.Allowed.{before_the_end}
use Rattle.turns.specs.Laws.{BooksNeverReachTheEndOfTheClock}

other_one : (end moment last : ℕ) → last < end → end ≤ max moment last → end ≤ moment
other_one end moment last below late = omega (arith, below, late)

pub never_there : BooksNeverReachTheEndOfTheClock
never_there origin moment starts (b, began, late) =
    other_one clock_end moment b.current.moment
    (before_the_end origin b.taken b.current began starts) late
