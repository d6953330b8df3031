-- Which events may exceed a router's limits, and so be refused because the database is full.
use Rattle.std.specs.Prelude.{◌≡◌, ℕ, Bool, true, false, List, Some}
use Rattle.std.specs.FinMap as finite
use Rattle.words.specs.declared.key.Key.{Key}
use Rattle.words.specs.declared.route.External.{External}
use Rattle.event_rules.specs.declared.model.Config.{Config}
use Rattle.event_rules.specs.declared.model.Out.{Out}
use Rattle.event_rules.specs.Events.{Happens, Run, Step, initial}
use Rattle.event_rules.specs.Refusals.{WouldExceed, exceeds}
use Rattle.event_rules.specs.Routers.{Occurrence, Router}

-- a `Packet` may bring LSAs, and a `Redistribute` checks the limits only afterwards
abbrev pub may_exceed : Occurrence → Bool
may_exceed (Occurrence.Packet interface bytes) = true
may_exceed Occurrence.Tick = false
may_exceed (Occurrence.Redistribute tagged tag priced price) = true
may_exceed (Occurrence.Withdraw prefix) = false
may_exceed (Occurrence.Install answers) = false
may_exceed (Occurrence.LinkDown interface) = false

-- the announced destinations have keys of AS-external-LSAs
abbrev pub AnnouncesExternals : Router → Type 0
AnnouncesExternals r =
    (key : Key) (e : External) → finite.get r.announced key ≡ Some e → key.ls_type ≡ 5

-- a router starts within its limits; every other event keeps a router within them, and is never
-- refused because the database is full
pub record OthersStayWithinLimits : Type 0 where
  pub start : (c : Config) → exceeds (initial c) ≡ false
  -- at the start, after each event, and so in every run
  pub first : (c : Config) → AnnouncesExternals (initial c)
  pub event : (old : Router) (moment : ℕ) (event : Occurrence) (outs : List Out) (new : Router)
      → Happens old moment event outs new → AnnouncesExternals old → AnnouncesExternals new
  pub run : (c : Config) (steps : List Step) (new : Router) → Run (initial c) steps new
      → AnnouncesExternals new
  -- for such a router
  pub kept : (old : Router) (moment : ℕ) (event : Occurrence) (outs : List Out) (new : Router)
      → AnnouncesExternals old → may_exceed event ≡ false → Happens old moment event outs new
      → exceeds old ≡ false → exceeds new ≡ false
  pub not_refused : (old : Router) (moment : ℕ) (event : Occurrence) → AnnouncesExternals old
      → may_exceed event ≡ false → exceeds old ≡ false → WouldExceed old moment event → ⊥
