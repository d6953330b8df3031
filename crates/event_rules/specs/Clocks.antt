-- Runs in which the clock doesn't go back, and that a router takes no others.
use Rattle.std.specs.Prelude.{◌≡◌, ◌<◌, ◌≤◌, false, List, [], ◌∷◌, ◌++◌, None}
use Rattle.words.specs.Constants.{clock_end}
use Rattle.words.specs.Numbers.{Moment}
use Rattle.event_rules.specs.declared.model.Config.{Config}
use Rattle.event_rules.specs.declared.model.Out.{Out}
use Rattle.event_rules.specs.Events.{Happens, Run, Step, initial}
use Rattle.event_rules.specs.Refusals.{IsAllowed, refusal_before_limits, is_clock_back}
use Rattle.event_rules.specs.Routers.{Occurrence, Router}

-- no event is earlier than the one before it, and the first is no earlier than this moment
abbrev pub ClockRunsOn : Moment → List Step → Type 0
ClockRunsOn moment [] = Unit {0}
ClockRunsOn moment (s ∷ steps) = (moment ≤ s.moment) × ClockRunsOn s.moment steps

-- consecutive events, none of which the rules refuse
abbrev pub RunOfTaken : Router → List Step → Router → Type 0
RunOfTaken old [] new = new ≡ old
RunOfTaken old (s ∷ steps) new =
    IsAllowed old s.moment s.event
    × ((middle : Router) × Happens old s.moment s.event s.outs middle
    × RunOfTaken middle steps new)

pub record RoutersRefuseClocksThatGoBack : Type 0 where
  -- a router's moment is that of its start, and then that of the last event
  pub start : (c : Config) → (initial c).moment ≡ c.start
  pub moment : (old : Router) (moment : Moment) (event : Occurrence) (outs : List Out)
      (new : Router) → Happens old moment event outs new → new.moment ≡ moment
  -- an event for which there is no reason to refuse it isn't refused for its moment, and so is no
  -- earlier than the one before
  pub taken : (old : Router) (moment : Moment) (event : Occurrence)
      → refusal_before_limits old moment event ≡ None → is_clock_back moment old ≡ false
  pub event : (old : Router) (moment : Moment) → is_clock_back moment old ≡ false
      → old.moment ≤ moment
  -- so in every run of events that are taken, also in one with one more
  pub run : (steps : List Step) (old new : Router) → RunOfTaken old steps new
      → Run old steps new × ClockRunsOn old.moment steps
  pub more : (steps : List Step) (old before after : Router) (s : Step)
      → RunOfTaken old steps before → IsAllowed before s.moment s.event
      → Happens before s.moment s.event s.outs after → RunOfTaken old (steps ++ s ∷ []) after
  -- nor does it come to the end of the clock, at which no event is taken
  pub before_the_end : (steps : List Step) (old new : Router) → RunOfTaken old steps new
      → old.moment < clock_end → new.moment < clock_end
  -- the moment never falls
  pub later : (steps : List Step) (old new : Router) → Run old steps new
      → ClockRunsOn old.moment steps → old.moment ≤ new.moment
