-- The premises of the law about own LSAs, met by the events that lead to a running router.
use Rattle.std.proofs.Common.{ℕ, Bool, List, Option, subst}
use Rattle.words.specs.Numbers.{Moment}
use Rattle.event_rules.specs.declared.model.Config.{Config}
use Rattle.event_rules.specs.declared.model.Out.{Out}
use Rattle.event_rules.specs.Events.{Happens, Step, initial}
use Rattle.event_rules.specs.Refusals.{IsAllowed}
use Rattle.event_rules.specs.Routers.{Occurrence, Router}
use Rattle.event_rules.specs.Clocks.{ClockRunsOn, RoutersRefuseClocksThatGoBack}
use Rattle.own_lsa_laws.specs.OwnCopies.{EndsWithTick, NobodySpeaksForThisRouter, SpeaksForItself}
use Rattle.flood.specs.declared.event.Event.{Event}
use Rattle.flood.specs.declared.event.Event.TheVariants as event
use Rattle.flood.specs.Replay.{IsAfterEvents}
use Rattle.turns.specs.Turns.{IsTakenBySome}
use Rattle.own_lsa_laws.specs.RunningRouter.{IsTicked, NobodySpeaksForTheRunningRouter}

from_start : RoutersRefuseClocksThatGoBack → (c : Config) (steps : List Step)
    → ClockRunsOn (initial c).moment steps → ClockRunsOn c.start steps
from_start clocks c steps = subst (λ (m : ℕ). ClockRunsOn m steps) (clocks.start c)

always : NobodySpeaksForThisRouter → RoutersRefuseClocksThatGoBack → (c : Config) (taken : ℕ)
    (r : Router) → IsAfterEvents (initial c) taken r → SpeaksForItself r
always law clocks c taken r (steps, run, many) =
    let on = clocks.run steps (initial c) r run in
    law.always c steps r (from_start clocks c steps on.1) on.0

ends : RoutersRefuseClocksThatGoBack → (c : Config) (taken : ℕ) (moment : Moment) (old new : Router)
    (outs : List Out) → IsAfterEvents (initial c) taken old
    → IsAllowed old moment Occurrence.Tick
    → Happens old moment Occurrence.Tick outs new → EndsWithTick c moment new
ends clocks c taken moment old new outs (steps, run, many) on happens =
    let since = clocks.run steps (initial c) old run in record {
      steps = steps;
      before = old;
      outs = outs;
      run = since.0;
      clock = from_start clocks c steps since.1;
      later = clocks.event old moment (clocks.taken old moment Occurrence.Tick on.0);
      tick = happens;
    }

ticked : NobodySpeaksForThisRouter → RoutersRefuseClocksThatGoBack → (c : Config) (events : ℕ)
    (moment : Moment) (outs : List Out) (stale : Option Bool)
    → IsTakenBySome (initial c) events moment event.Tick outs stale → IsTicked c moment outs
ticked law clocks c events moment outs stale (taken, old, new, least, leads, on, happens, left) =
    let its_end = ends clocks c taken moment old new outs leads on happens in record {
      taken = taken;
      old = old;
      new = new;
      leads = leads;
      happens = happens;
      speaks = law.tick c moment new its_end;
      in_five_seconds = law.in_five_seconds c moment new its_end;
    }

pub nobody_speaks : NobodySpeaksForThisRouter → RoutersRefuseClocksThatGoBack
    → NobodySpeaksForTheRunningRouter
nobody_speaks law clocks = record {
  always = always law clocks;
  tick = λ c old new events moment outs stale given.
      ticked law clocks c events moment outs stale
      (subst (λ (e : Event). IsTakenBySome (initial c) events moment e outs stale) given.1.0
      given.2);
}
