-- The copies in the database with this router's own Advertising Router, whoever originated them:
-- the router wants to say what they say, or they are replaced or flushed, as soon as MinLSInterval
-- allows it (RFC 2328, sections 12.4 and 13.4).
use Rattle.std.specs.Prelude.{◌≡◌, ◌≤◌, ◌<◌, ◌+◌, ◌⊎◌, true, false, List, Some}
use Rattle.std.specs.FinMap as finite
use Rattle.std.specs.FinSet as set
use Rattle.words.specs.Constants.{min_ls_interval}
use Rattle.words.specs.Numbers.{Moment}
use Rattle.words.specs.declared.key.Key.{Key}
use Rattle.lsa.specs.declared.body.LsaBody.{LsaBody}
use Rattle.lsdb.specs.Copies.{DatabaseCopy, is_aged_out}
use Rattle.event_rules.specs.declared.model.Config.{Config}
use Rattle.event_rules.specs.declared.model.Out.{Out}
use Rattle.event_rules.specs.Endings.{same_body}
use Rattle.event_rules.specs.Events.{Happens, Run, Step, initial}
use Rattle.event_rules.specs.Originations.{wanted_body}
use Rattle.event_rules.specs.Routers.{Occurrence, Router}
use Rattle.event_rules.specs.Clocks.{ClockRunsOn}

-- ---- a copy in this router's name

-- the LSA is self-originated: its Advertising Router is this router; and it is below MaxAge
pub record IsSelfOriginated (r : Router) (key : Key) (copy : DatabaseCopy) : Type 0 where
  pub there : finite.get r.area.database key ≡ Some copy
  pub own : copy.lsa.header.advertising_router ≡ r.id
  pub young : is_aged_out r.moment copy ≡ false

-- the router wants an LSA of this key, and the copy has the wanted body
pub record HasWantedBody (r : Router) (key : Key) (copy : DatabaseCopy) : Type 0 where
  pub says : LsaBody
  pub wanted : wanted_body r key ≡ Some says
  pub same : same_body copy.lsa.body says ≡ true

-- the router wants an LSA of this key, which waits for a Tick
pub record IsToBeReplaced (r : Router) (key : Key) : Type 0 where
  pub says : LsaBody
  pub wanted : wanted_body r key ≡ Some says
  pub waits : set.contains r.waiting key ≡ true

-- only MinLSInterval prevents the replacement: the router originated an instance less than five
-- seconds ago, and the copy was stored no earlier
pub record IsHeldBack (r : Router) (key : Key) (copy : DatabaseCopy) : Type 0 where
  pub replaced : IsToBeReplaced r key
  pub originated : Moment
  pub last : finite.get r.originated key ≡ Some originated
  pub before : originated ≤ copy.stored
  pub recent : r.moment < originated + min_ls_interval

-- ---- a router

-- each such copy has the wanted body, or waits to be replaced; what isn't wanted is at MaxAge
abbrev pub SpeaksForItself : Router → Type 0
SpeaksForItself r = (key : Key) (copy : DatabaseCopy) → IsSelfOriginated r key copy
    → HasWantedBody r key copy ⊎ IsToBeReplaced r key

-- after a Tick: only MinLSInterval prevents a replacement
abbrev pub SpeaksForItselfAfterTick : Router → Type 0
SpeaksForItselfAfterTick r = (key : Key) (copy : DatabaseCopy) → IsSelfOriginated r key copy
    → HasWantedBody r key copy ⊎ IsHeldBack r key copy

-- ---- the law

-- a run from the start that ends with a Tick
pub record EndsWithTick (c : Config) (moment : Moment) (r : Router) : Type 0 where
  pub steps : List Step
  pub before : Router
  pub outs : List Out
  pub run : Run (initial c) steps before
  pub clock : ClockRunsOn c.start steps
  pub later : before.moment ≤ moment
  pub tick : Happens before moment Occurrence.Tick outs r

pub record NobodySpeaksForThisRouter : Type 0 where
  -- after every run, and so after each event
  pub always : (c : Config) (steps : List Step) (r : Router) → ClockRunsOn c.start steps
      → Run (initial c) steps r → SpeaksForItself r
  pub tick : (c : Config) (moment : Moment) (r : Router) → EndsWithTick c moment r
      → SpeaksForItselfAfterTick r
  -- so the first Tick at least five seconds after a copy was stored has replaced or flushed it
  pub in_five_seconds : (c : Config) (moment : Moment) (r : Router) → EndsWithTick c moment r
      → (key : Key) (copy : DatabaseCopy) → IsSelfOriginated r key copy
      → copy.stored + min_ls_interval ≤ moment → HasWantedBody r key copy
