-- What is so of each event of a router, in every run.
use Rattle.std.specs.Prelude.{List}
use Rattle.words.specs.Numbers.{Moment}
use Rattle.event_rules.specs.declared.model.Out.{Out}
use Rattle.event_rules.specs.Events.{Happens}
use Rattle.event_rules.specs.Routers.{Occurrence, Router}
use Rattle.invariants.specs.InOrder.{IsConsistent}

-- a property of each event of a router that is in order, as it is at each point of every run: of
-- the router before it, its moment, the event, and the router after it
abbrev pub OfEachEvent : (Router → Moment → Occurrence → Router → Type 0) → Type 0
OfEachEvent Holds =
    (old : Router) (moment : Moment) (event : Occurrence) (outs : List Out) (new : Router)
    → Happens old moment event outs new → IsConsistent old → Holds old moment event new
