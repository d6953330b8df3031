-- A router's step keeps what acknowledgments rely on: what it holds and sends was held before, was
-- received in the event's Link State Update, or is a new LSA of its own; and if it removes an
-- instance from a retransmission list as acknowledged, the event's packet says so.
use Rattle.std.specs.Prelude.{◌≡◌, ◌<◌, ◌^◌, ℕ, List, FitsSigned, Some}
use Rattle.std.specs.Int.{w32}
use Rattle.std.specs.FinMap as finite
use Rattle.std.specs.List.{AllByRecursion, Contains, enumerate_from, filter_map}
use Rattle.words.specs.Numbers.{InterfaceNumber, Moment, RouterNumber}
use Rattle.words.specs.declared.key.Key.{Key}
use Rattle.words.specs.declared.route.External.{External}
use Rattle.received.specs.Links.{Link}
use Rattle.received.specs.AreaStates.{Send, at_interface}
use Rattle.event_rules.specs.declared.model.Config.{Config}
use Rattle.event_rules.specs.declared.model.Out.{Out}
use Rattle.event_rules.specs.Endings.{end_event}
use Rattle.event_rules.specs.Events.{Happens, Run, Step, initial}
use Rattle.event_rules.specs.InstanceIdentities.{InstanceIdentity}
use Rattle.event_rules.specs.Packing.{IsSentText, bodies}
use Rattle.event_rules.specs.Routers.{Occurrence, Router}
use Rattle.invariants.specs.InOrder.{AnnouncesItsOwn, IsConsistent}
use Rattle.invariants.specs.TakenOff.{TakesOffWhatIsTold}
use Rattle.invariants.specs.Worlds.{Keeps, instances_stored}

-- ---- what a step keeps

pub record KeepsWhatIsKnown (old : Router) (moment : Moment) (event : Occurrence)
    (outs : List Out) (new : Router) : Type 0 where
  -- what the event originates
  pub originated : List InstanceIdentity
  pub keeps : Keeps old moment event outs new originated

-- ---- The numbers of a Rust value are in their ranges; those of a clause may be any numbers.

pub record IsLsaKey (key : Key) : Type 0 where
  pub ls_type : key.ls_type < 2 ^ 8
  pub link_state_id : key.link_state_id < 2 ^ 32
  pub advertising_router : key.advertising_router < 2 ^ 32

pub record IsIdentityInRange (name : InstanceIdentity) : Type 0 where
  pub key : IsLsaKey name.key
  pub sequence : FitsSigned w32 name.sequence
  pub checksum : name.checksum < 2 ^ 16

-- the numbers of what a router holds and announces
pub record HasNumbersInRange (r : Router) : Type 0 where
  pub id : r.id < 2 ^ 32
  pub held : (name : InstanceIdentity) → Contains (instances_stored r) name → IsIdentityInRange name
  pub announced : (key : Key) (e : External) → finite.get r.announced key ≡ Some e → IsLsaKey key

-- the address that a `Redistribute` announces
abbrev pub AnnouncesAddress : Occurrence → Type 0
AnnouncesAddress (Occurrence.Packet interface bytes) = Unit {0}
AnnouncesAddress Occurrence.Tick = Unit {0}
AnnouncesAddress (Occurrence.Redistribute tagged tag priced price) =
    priced.prefix.address < 2 ^ 32
AnnouncesAddress (Occurrence.Withdraw prefix) = Unit {0}
AnnouncesAddress (Occurrence.Install answers) = Unit {0}
AnnouncesAddress (Occurrence.LinkDown interface) = Unit {0}

pub record InstancesStayInRange : Type 0 where
  -- at the start
  pub first : (c : Config) → c.router < 2 ^ 32 → HasNumbersInRange (initial c)
  -- after each event, if it held before
  pub event : (old : Router) (moment : Moment) (event : Occurrence) (outs : List Out)
      (new : Router) → Happens old moment event outs new → AnnouncesAddress event
      → AnnouncesItsOwn old → HasNumbersInRange old → HasNumbersInRange new
  -- so after every run from the start
  pub run : (c : Config) (steps : List Step) (new : Router) → c.router < 2 ^ 32
      → AllByRecursion (λ (s : Step). AnnouncesAddress s.event) steps
      → Run (initial c) steps new → HasNumbersInRange new

-- ---- what is removed was acknowledged

-- if an instance is removed from a retransmission list as acknowledged, the event's packet from
-- that neighbor says so
abbrev pub WhatIsTakenOffWasTold : Type 0
WhatIsTakenOffWasTold =
    (old : Router) (moment : Moment) (event : Occurrence) (outs : List Out) (new : Router)
    → Happens old moment event outs new → IsConsistent old
    → TakesOffWhatIsTold old moment event new

-- ---- the law

-- all that is sent at an interface
abbrev pub AreTextsAt : RouterNumber → List Send → InterfaceNumber → Link → Type 0
AreTextsAt own sends interface link =
    AllByRecursion (IsSentText own)
    (bodies link.interface.delay (filter_map (at_interface interface) sends))

-- at every interface
abbrev pub AreTexts : RouterNumber → List Link → List Send → Type 0
AreTexts own links sends =
    AllByRecursion (λ (e : ℕ × Link). AreTextsAt own sends e.0 e.1) (enumerate_from 1 links)

-- for a router of any run, whose instances have their numbers in their ranges, if the packets are
-- encoded correctly
abbrev pub EventsKeepWhatIsKnown : Type 0
EventsKeepWhatIsKnown =
    (old : Router) (moment : Moment) (event : Occurrence) (outs : List Out) (new : Router)
    → (happens : Happens old moment event outs new) → AnnouncesAddress event
    → IsConsistent old → HasNumbersInRange old
    → AreTexts old.id old.area.links (end_event old moment happens.after).sends
    → KeepsWhatIsKnown old moment event outs new
