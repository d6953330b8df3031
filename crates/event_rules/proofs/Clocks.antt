-- A router's moment is that of its last event, and never falls.
use Rattle.std.proofs.Common.{◌≡◌, ℕ, ◌≤◌, Bool, true, false, cond, ◌&&◌, List, [], ◌∷◌, ◌++◌}
use Rattle.std.proofs.Common.{Option, None, Some, refl, sym, ap, subst, arith, leb-false, ltb-false}
use Rattle.std.specs.Prelude.{◌<◌, ◌||◌, nat_le, nat_lt, if◌then◌else◌}
use Rattle.std.specs.FinMap as finite
use Rattle.words.specs.Constants.{clock_end}
use Rattle.words.specs.declared.key.Key.{Key}
use Rattle.lsa.specs.declared.body.LsaBody.{LsaBody}
use Rattle.event_rules.specs.declared.model.Config.{Config}
use Rattle.event_rules.specs.declared.model.CoreError.{CoreError}
use Rattle.event_rules.specs.declared.model.CoreError.TheVariants as error
use Rattle.event_rules.specs.declared.model.Out.{Out}
use Rattle.event_rules.specs.EventState.{EventState, on_router}
use Rattle.event_rules.specs.Events.{Happens, Run, Step, initial}
use Rattle.event_rules.specs.Originations.{flush, has_max_sequence, has_room, may_originate}
use Rattle.event_rules.specs.Originations.{originate}
use Rattle.event_rules.specs.Originations.{originate_body, postpone, router_key, wanted_body}
use Rattle.event_rules.specs.Refusals.{IsAllowed, refusal_before_limits, is_clock_back, of_event}
use Rattle.event_rules.specs.Routers.{Occurrence, Router, unannounced_router}
use Rattle.event_rules.specs.Clocks.{ClockRunsOn, RoutersRefuseClocksThatGoBack, RunOfTaken}

-- ---- the start

either_moment : (b c : Bool) (x y z : EventState) (m : ℕ) → x.router.moment ≡ m
    → y.router.moment ≡ m → z.router.moment ≡ m
    → (cond b x (cond c y z)).router.moment ≡ m
either_moment true c x y z m a b e = a
either_moment false true x y z m a b e = b
either_moment false false x y z m a b e = e

originated_moment : (may_now : Bool) (moment : ℕ) (key : Key) (says : Option LsaBody)
    (p : EventState) → (originate_body may_now moment key says p).router.moment ≡ p.router.moment
originated_moment may_now moment key None p = refl
originated_moment may_now moment key (Some says) p =
    either_moment (has_max_sequence (finite.get p.router.area.database key))
    (may_now && may_originate moment key p.router) (flush moment key p)
    (originate moment key says p) (on_router (postpone key) p) p.router.moment refl refl refl

start_moment : (c : Config) → (initial c).moment ≡ c.start
start_moment c =
    let bare : EventState = record { router = unannounced_router c; sends = [] } in
    let key : Key = router_key c.router in
    originated_moment (has_room key bare.router) c.start key (wanted_body bare.router key) bare

-- ---- an event

pub event_moment : (old : Router) (moment : ℕ) (event : Occurrence) (outs : List Out)
    (new : Router) → Happens old moment event outs new → new.moment ≡ moment
event_moment old moment event outs new happens = ap (λ (r : Router). r.moment) happens.router

taken_clock : (back : Bool) (late : Option CoreError)
    → (if back then Some error.ClockBack else late) ≡ None → back ≡ false
taken_clock true late is = absurd cc
taken_clock false late is = refl

pub taken_moment : (old : Router) (moment : ℕ) (event : Occurrence)
    → refusal_before_limits old moment event ≡ None → is_clock_back moment old ≡ false
taken_moment old moment event is =
    taken_clock (is_clock_back moment old) (of_event old event) is

first_of : (a b : Bool) → (a || b) ≡ false → a ≡ false
first_of true b is = absurd cc
first_of false b is = refl

second_of : (a b : Bool) → (a || b) ≡ false → b ≡ false
second_of true b is = absurd cc
second_of false b is = is

below_the_end : (old : Router) (moment : ℕ) → is_clock_back moment old ≡ false → moment < clock_end
below_the_end old moment is = leb-false clock_end moment
    (second_of (nat_lt moment old.moment) (nat_le clock_end moment) is)

pub later_moment : (old : Router) (moment : ℕ) → is_clock_back moment old ≡ false
    → old.moment ≤ moment
later_moment old moment is =
    ltb-false moment old.moment (first_of (nat_lt moment old.moment) (nat_le clock_end moment) is)

-- ---- runs

-- the clock of the events that follow, from the router that the first one leaves
from_middle : (old : Router) (s : Step) (middle : Router) (steps : List Step)
    → Happens old s.moment s.event s.outs middle → ClockRunsOn middle.moment steps
    → ClockRunsOn s.moment steps
from_middle old s middle steps happens =
    subst (λ (m : ℕ). ClockRunsOn m steps)
    (event_moment old s.moment s.event s.outs middle happens)

to_middle : (old : Router) (s : Step) (middle : Router) (steps : List Step)
    → Happens old s.moment s.event s.outs middle → ClockRunsOn s.moment steps
    → ClockRunsOn middle.moment steps
to_middle old s middle steps happens =
    subst (λ (m : ℕ). ClockRunsOn m steps)
    (sym (event_moment old s.moment s.event s.outs middle happens))

taken_run : (steps : List Step) (old new : Router) → RunOfTaken old steps new
    → Run old steps new × ClockRunsOn old.moment steps
taken_run [] old new same = (same, tt)
taken_run (s ∷ steps) old new (on, (middle, happens, rest)) =
    let later = taken_run steps middle new rest in (
      (middle, happens, later.0),
      (
        later_moment old s.moment (taken_moment old s.moment s.event on.0),
        from_middle old s middle steps happens later.1,
      ),
    )

pub one_more : (steps : List Step) (old before after : Router) (s : Step)
    → RunOfTaken old steps before → IsAllowed before s.moment s.event
    → Happens before s.moment s.event s.outs after → RunOfTaken old (steps ++ s ∷ []) after
one_more [] old before after s same on now = (
  subst (λ (r : Router). IsAllowed r s.moment s.event) same on,
  (after, subst (λ (r : Router). Happens r s.moment s.event s.outs after) same now, refl),
)
one_more (x ∷ steps) old before after s (first, (middle, happens, run)) on now =
    (first, (middle, happens, one_more steps middle before after s run on now))

pub before_end : (steps : List Step) (old new : Router) → RunOfTaken old steps new
    → old.moment < clock_end → new.moment < clock_end
before_end [] old new same below =
    subst (λ (r : Router). r.moment < clock_end) (sym same) below
before_end (s ∷ steps) old new (on, (middle, happens, run)) below =
    before_end steps middle new run
    (subst (λ (m : ℕ). m < clock_end)
    (sym (event_moment old s.moment s.event s.outs middle happens))
    (below_the_end old s.moment (taken_moment old s.moment s.event on.0)))

itself : (m : ℕ) → m ≤ m
itself m = omega arith

before_all : (a b c : ℕ) → a ≤ b → b ≤ c → a ≤ c
before_all a b c first second = omega arith

pub never_falls : (steps : List Step) (old new : Router) → Run old steps new
    → ClockRunsOn old.moment steps → old.moment ≤ new.moment
never_falls [] old new same clock =
    subst (λ (r : Router). old.moment ≤ r.moment) (sym same) (itself old.moment)
never_falls (s ∷ steps) old new (middle, happens, run) (first, clock) =
    before_all old.moment middle.moment new.moment
    (subst (λ (m : ℕ). old.moment ≤ m)
    (sym (event_moment old s.moment s.event s.outs middle happens)) first)
    (never_falls steps middle new run (to_middle old s middle steps happens clock))

-- ---- the law

pub clocks_run_on : RoutersRefuseClocksThatGoBack
clocks_run_on = record {
  start = start_moment;
  moment = event_moment;
  taken = taken_moment;
  event = later_moment;
  run = taken_run;
  more = one_more;
  before_the_end = before_end;
  later = never_falls;
}
