-- The LSAs in the name of the running router: what holds of every run in which the clock doesn't go
-- back (OwnCopies), of the router that turns are taken at.
use Rattle.std.specs.Prelude.{ℕ, ◌+◌, ◌≤◌, Bool, List, Option}
use Rattle.words.specs.Constants.{min_ls_interval}
use Rattle.words.specs.Numbers.{Moment}
use Rattle.words.specs.declared.key.Key.{Key}
use Rattle.lsdb.specs.Copies.{DatabaseCopy}
use Rattle.event_rules.specs.declared.model.Config.{Config}
use Rattle.event_rules.specs.declared.model.Out.{Out}
use Rattle.event_rules.specs.Events.{Happens, initial}
use Rattle.event_rules.specs.Routers.{Occurrence, Router}
use Rattle.own_lsa_laws.specs.OwnCopies.{HasWantedBody, IsSelfOriginated, SpeaksForItself}
use Rattle.own_lsa_laws.specs.OwnCopies.{SpeaksForItselfAfterTick}
use Rattle.turns.specs.Askers.{AskerState}
use Rattle.flood.specs.Replay.{IsAfterEvents}
use Rattle.turns.specs.Turns.{IsOfferedBySome, TakesFor, refuses_from, took_from}
use Rattle.turns.specs.declared.work.Work.TheVariants.{Tick}

-- A Tick at this moment sent these, at a router to which events lead from the one that is made of
-- the configuration. It left a router in which only MinLSInterval prevents that a copy in its name
-- is replaced, and none that was stored five seconds before the Tick lacks the wanted body.
pub record IsTicked (c : Config) (moment : Moment) (outs : List Out) : Type 0 where
  pub taken : ℕ
  pub old : Router
  pub new : Router
  pub leads : IsAfterEvents (initial c) taken old
  pub happens : Happens old moment Occurrence.Tick outs new
  pub speaks : SpeaksForItselfAfterTick new
  pub in_five_seconds : (key : Key) (copy : DatabaseCopy) → IsSelfOriginated new key copy
      → copy.stored + min_ls_interval ≤ moment → HasWantedBody new key copy

pub record NobodySpeaksForTheRunningRouter : Type 0 where
  -- at each router to which the events lead that a book took, which began with the configured one
  pub always : (c : Config) (taken : ℕ) (r : Router) → IsAfterEvents (initial c) taken r
      → SpeaksForItself r
  -- after each Tick that a turn gives to such a book
  pub tick : (c : Config) (old new : AskerState) (events : ℕ) (moment : Moment)
      (outs : List Out) (stale : Option Bool)
      → TakesFor (IsOfferedBySome (initial c)) (took_from (initial c)) (refuses_from (initial c))
      old new events moment Tick outs stale
      → IsTicked c moment outs
