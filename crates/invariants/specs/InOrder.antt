-- An invariant of a router at every point of a run, by which entries of retransmission lists can be
-- followed through an event.
use Rattle.std.specs.Prelude.{◌≡◌, List, Some}
use Rattle.std.specs.FinMap as finite
use Rattle.words.specs.Numbers.{Moment}
use Rattle.words.specs.declared.key.Key.{Key}
use Rattle.words.specs.declared.route.External.{External}
use Rattle.event_rules.specs.declared.model.Config.{Config}
use Rattle.event_rules.specs.declared.model.Out.{Out}
use Rattle.event_rules.specs.Events.{Happens, Run, Step, initial}
use Rattle.event_rules.specs.Routers.{Occurrence, Router}
use Rattle.invariants.specs.LimitLaws.{AnnouncesExternals}
use Rattle.invariants.specs.Retransmissions.{HasItsRetransmissions}

-- a router announces only under its own Router ID
abbrev pub AnnouncesItsOwn : Router → Type 0
AnnouncesItsOwn r =
    (key : Key) (e : External) → finite.get r.announced key ≡ Some e → key.advertising_router ≡ r.id

-- it announces only external destinations, under its own Router ID, and its retransmission lists
-- have the database's instances
pub record IsConsistent (r : Router) : Type 0 where
  pub own : AnnouncesItsOwn r
  pub externals : AnnouncesExternals r
  pub retransmissions : HasItsRetransmissions r

pub record RoutersStayInOrder : Type 0 where
  -- at the start
  pub first : (c : Config) → IsConsistent (initial c)
  -- after each event, if it held before
  pub event : (old : Router) (moment : Moment) (event : Occurrence) (outs : List Out)
      (new : Router) → Happens old moment event outs new → IsConsistent old → IsConsistent new
  -- so after every run from the start
  pub run : (c : Config) (steps : List Step) (new : Router) → Run (initial c) steps new
      → IsConsistent new
