-- No rule refuses an event that a book takes; so the book doesn't come to the end of the clock.
use Rattle.std.proofs.Common.{◌<◌, ℕ, Ok}
use Rattle.words.specs.Constants.{clock_end}
use Rattle.words.specs.Numbers.{Moment}
use Rattle.event_rules.specs.Refusals.{IsAllowed}
use Rattle.event_rules.specs.Routers.{Router}
use Rattle.event_rules.proofs.Clocks.{before_end}
use Rattle.flood.specs.declared.event.Event.{Event}
use Rattle.flood.specs.Occurrences.{occurrence_of}
use Rattle.flood.specs.Refusals.{BookRefusesWithMarksByRules}
use Rattle.flood.specs.Replay.{BookView, IsAfterEvents}

pub allowed : {X : Type 0} (b : BookView) (moment : Moment) (e : Event) (x : X)
    → BookRefusesWithMarksByRules {X = X} b moment e (Ok x)
    → IsAllowed b.current moment (occurrence_of e)
allowed b moment e x answers = answers.1

pub before_the_end : (origin : Router) (taken : ℕ) (now : Router) → IsAfterEvents origin taken now
    → origin.moment < clock_end → now.moment < clock_end
before_the_end origin taken now (steps, run, many) = before_end steps origin now run
