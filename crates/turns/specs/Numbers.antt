-- The numbers of a turn's refusals.
use Rattle.std.specs.Prelude.{ℕ}
use Rattle.flood.specs.Numbers.{book_error_number}
use Rattle.turns.specs.declared.turned.TurnError.{TurnError}
use Rattle.turns.specs.declared.turned.TurnError.TheVariants as refusing

abbrev pub turn_error_number : TurnError → ℕ
turn_error_number (refusing.Book e) = book_error_number e
turn_error_number refusing.Away = 8
