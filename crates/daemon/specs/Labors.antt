-- What a worker has done when it brings its port back.
use Rattle.std.specs.Prelude.{ℕ}
use Rattle.turns.specs.Askers.{AskerState}
use Rattle.worker.specs.Lives.{HasLived, HasLivedOn, Hears, Reads, Senses, Shows, Standing}
use Rattle.worker.specs.Lives.{senses_of, standing}
use Rattle.worker.specs.Sending.{Gives}
use Rattle.turns.specs.Turns.{IsOfferedBySome, refuses_from, took_from}
use Rattle.event_rules.specs.Routers.{Router}

-- what is said of a worker at the port of this number, with such a transport and such a clock, at a
-- book that began with this router
abbrev pub senses_at : {Transport Clock : Type 0} → Gives Transport → Hears Transport → Shows Clock
    → (origin : Router) → (number : ℕ) → Senses Transport Clock
senses_at gives hears shows origin number =
    senses_of gives hears shows (IsOfferedBySome origin) (took_from origin) (refuses_from origin)
    number

-- It lived some rounds from this flag and this standing on, until it found the flag set. Its port's
-- asker and seat are in this state then, and the port has given the router this number of events.
abbrev pub HasServed : {Transport Clock Flag : Type 0} → Senses Transport Clock → Reads Flag
    → (begun : Flag) → (start : Standing Transport Clock) → AskerState → (events : ℕ) → Type 0
HasServed {Transport = Transport} {Clock = Clock} {Flag = Flag} senses reads begun start asker
    events =
    (told : Flag) × (transport : Transport) × (clock : Clock)
    × HasLived senses reads begun start told (standing transport clock asker events)

-- so it lived, and began one more round: of a worker that ended so, its transport failed in that
abbrev pub HasServedOn : {Transport Clock Flag : Type 0} → Senses Transport Clock → Reads Flag
    → (begun : Flag) → (start : Standing Transport Clock) → Type 0
HasServedOn {Flag = Flag} senses reads begun start =
    (untold : Flag) × HasLivedOn senses reads begun start untold
