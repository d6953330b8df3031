-- The refusal after which a turn is tried again.
use Rattle.event_rules.specs.declared.model.CoreError.TheVariants.{ClockBack}
use Rattle.flood.specs.declared.book.error.BookError.TheVariants.{Core}
use Rattle.turns.specs.declared.turned.TurnError.{TurnError}
use Rattle.turns.specs.declared.turned.TurnError.TheVariants.{Book}

-- the moment is before the router's last event
abbrev pub clock_back : TurnError
clock_back = Book (Core ClockBack)
