-- What the definitions of turns mean, as laws.
use Rattle.std.specs.Prelude.{◌≡◌, ◌<◌, ◌≤◌, ◌↔◌, ℕ, Bool, List, Option}
use Rattle.words.specs.Constants.{clock_end}
use Rattle.words.specs.Numbers.{InterfaceNumber, Moment}
use Rattle.words.specs.declared.route.External.{External}
use Rattle.words.specs.declared.route.Route.{Route}
use Rattle.words.specs.declared.route.TableRow.{TableRow}
use Rattle.event_rules.specs.declared.model.Out.{Out}
use Rattle.event_rules.specs.Routers.{Router}
use Rattle.hooks.specs.Questions.{ExternalAnswer}
use Rattle.flood.specs.declared.event.Event.{Event}
use Rattle.flood.specs.declared.event.Event.TheVariants as event
use Rattle.turns.specs.Askers.{AskerState}
use Rattle.turns.specs.Turns.{AreBeside, BeganWith, IsAtTheEndOfTheClock, IsCountedIfRead}
use Rattle.turns.specs.Turns.{IsEventOfWork, IsOfferedBySome, IsTakenBySome, TakesFor}
use Rattle.turns.specs.Turns.{refuses_from, took_from}
use Rattle.turns.specs.declared.work.Work.TheVariants as work

-- A turn for a datagram, which is counted first or got no reading, gives the packet of just these
-- bytes from just this interface, and sends what the router sends at it, whatever programs are
-- loaded. What a program at `count` leaves in counters and cells may reach later answers of the
-- others, in the refresh of this turn too.
abbrev pub EventOfADatagramIsItsPacket : Type 0
EventOfADatagramIsItsPacket =
    (origin : Router) (old new : AskerState) (events : ℕ) (moment : Moment)
    (interface : InterfaceNumber) (bytes : List ℕ) (outs : List Out) (stale : Option Bool)
    → TakesFor (IsOfferedBySome origin) (took_from origin) (refuses_from origin) old new events
    moment (work.Datagram interface bytes) outs stale
    ↔ (IsCountedIfRead (refuses_from origin) old new interface moment bytes
    × IsTakenBySome origin events moment (event.Packet interface bytes) outs stale)

-- If a table is offered, the answers of an announcement are beside the rows of one that is: those
-- for which none was asked are the same beside each.
abbrev pub AnswersAreBesideATable : Type 0
AnswersAreBesideATable =
    (origin : Router) (candidates : List Route) (rows : List TableRow)
    (old new : AskerState) (moment : Moment) (external : External) (e : Event)
    → IsOfferedBySome origin candidates rows
    → IsEventOfWork (IsOfferedBySome origin) (refuses_from origin) old new (work.Add external)
    moment e
    → (candidates : List Route) × (rows : List TableRow)
    × (tag : ExternalAnswer) × (price : ExternalAnswer)
    × IsOfferedBySome origin candidates rows × AreBeside old new external moment rows tag price
    × (e ≡ event.Redistribute tag price)

-- A book that began before the end of the clock is never at it. So it refuses an `Install` for its
-- moment only if that is the end of the clock, or past it.
abbrev pub BooksNeverReachTheEndOfTheClock : Type 0
BooksNeverReachTheEndOfTheClock =
    (origin : Router) (moment : Moment) → origin.moment < clock_end
    → IsAtTheEndOfTheClock (BeganWith origin) (λ b. b.current.moment) moment
    → clock_end ≤ moment
