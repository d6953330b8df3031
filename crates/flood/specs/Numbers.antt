-- The numbers of a book's refusals.
use Rattle.std.specs.Prelude.{ℕ}
use Rattle.event_rules.specs.Numbers.{core_error_number}
use Rattle.flood.specs.declared.book.error.BookError.{BookError}
use Rattle.flood.specs.declared.book.error.BookError.TheVariants as refusing

abbrev pub book_error_number : BookError → ℕ
book_error_number (refusing.Core e) = core_error_number e
book_error_number refusing.Journal = 7
