-- Laws about events.
use Rattle.std.specs.Prelude.{◌≡◌, ℕ, List, ◌∷◌, None}
use Rattle.words.specs.Numbers.{InterfaceNumber, Moment}
use Rattle.words.specs.declared.route.Route.{Route}
use Rattle.lsa.specs.Reading.{lsa_in}
use Rattle.event_rules.specs.declared.model.Out.{Out}
use Rattle.event_rules.specs.Commands.{after_install}
use Rattle.event_rules.specs.Events.{Happens}
use Rattle.event_rules.specs.EventState.{EventState}
use Rattle.event_rules.specs.Packets.{after_lsas}
use Rattle.event_rules.specs.Routers.{Occurrence, Router}

-- an event has only one outcome
abbrev pub EventsAreDetermined : Type 0
EventsAreDetermined =
    (old : Router) (moment : ℕ) (event : Occurrence) (sent others : List Out)
    (new another : Router)
    → Happens old moment event sent new → Happens old moment event others another
    → (sent ≡ others) × (new ≡ another)

-- the answers of `veto` change neither the database nor a link, and send nothing
abbrev pub VetoesLeaveTheArea : Type 0
VetoesLeaveTheArea = (answers : List (Route × ℕ)) (before : EventState)
    → ((after_install answers before).router.area ≡ before.router.area)
    × ((after_install answers before).sends ≡ before.sends)

-- bytes of a Link State Update that encode no LSA are skipped, and the LSAs after them are
-- processed
abbrev pub WhatIsNoLsaIsSkipped : Type 0
WhatIsNoLsaIsSkipped = (moment : Moment) (interface : InterfaceNumber) (bytes : List ℕ)
    (rest : List (List ℕ)) (before : EventState) → lsa_in bytes ≡ None
    → after_lsas moment interface (bytes ∷ rest) before ≡ after_lsas moment interface rest before
