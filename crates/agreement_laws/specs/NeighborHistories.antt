-- Two neighbors in any environment: what each sends the other may be lost, repeated, late and
-- reordered, but isn't forged; on their other interfaces anything may be received; either may
-- restart. Their clocks may differ.
use Rattle.std.specs.Prelude.{◌≡◌, ◌⊎◌, ℕ, ◌==◌, ◌≤◌, Bool, true, false}
use Rattle.std.specs.Prelude.{if◌then◌else◌, List, [], ◌∷◌, ◌++◌, length, Option, None, Some}
use Rattle.std.specs.List.{AllByRecursion, Contains, filter_map}
use Rattle.words.specs.Numbers.{InterfaceNumber, Moment}
use Rattle.event_rules.specs.declared.model.Config.{Config}
use Rattle.event_rules.specs.declared.model.Out.{Out}
use Rattle.event_rules.specs.Endings.{end_event}
use Rattle.event_rules.specs.Events.{Happens, Step, initial}
use Rattle.event_rules.specs.Routers.{Occurrence, Router}
use Rattle.invariants.specs.Keeping.{AreTexts, IsIdentityInRange}
use Rattle.invariants.specs.Known.{instances_in_sends}

-- ---- the two

pub data Side : Type 0 where
  Left : Side
  Right : Side

abbrev pub other_side : Side → Side
other_side Side.Left = Side.Right
other_side Side.Right = Side.Left

-- a router; the packets that it has sent at its interface to the other one, from the first on; and
-- how many of them before its last start
pub record Party : Type 0 where
  pub router : Router
  pub sent : List (List ℕ)
  pub began : ℕ

pub record Pair : Type 0 where
  pub left : Party
  pub right : Party

abbrev pub party : Side → Pair → Party
party Side.Left w = w.left
party Side.Right w = w.right

-- the interface of each to the other
pub record Ends : Type 0 where
  pub left : InterfaceNumber
  pub right : InterfaceNumber

abbrev pub interface_of : Side → Ends → InterfaceNumber
interface_of Side.Left ends = ends.left
interface_of Side.Right ends = ends.right

-- ---- turns

abbrev pub text_at : InterfaceNumber → Out → Option (List ℕ)
text_at interface out = if out.interface == interface then Some out.bytes else None

-- an event of the router; what it receives at its interface to the other one was sent by that one
pub record TakesEvent (interface : InterfaceNumber) (heard : List (List ℕ)) (before after : Party)
    : Type 0 where
  pub moment : Moment
  pub event : Occurrence
  pub outs : List Out
  pub happens : Happens before.router moment event outs after.router
  -- its clock doesn't go back
  pub clock : before.router.moment ≤ moment
  pub not_forged : (bytes : List ℕ) → event ≡ Occurrence.Packet interface bytes
      → Contains heard bytes
  pub sent : after.sent ≡ before.sent ++ filter_map (text_at interface) outs
  pub began : after.began ≡ before.began
  -- the instances that it sends have their numbers in their ranges, and its packets are encoded
  -- correctly
  pub in_range : AllByRecursion IsIdentityInRange
      (instances_in_sends (end_event before.router moment happens.after).sends)
  pub texts : AreTexts before.router.id before.router.area.links
      (end_event before.router moment happens.after).sends

-- it restarts with its Router ID
pub record BeginsAnew (before after : Party) : Type 0 where
  pub config : Config
  pub same : config.router ≡ before.router.id
  pub router : after.router ≡ initial config
  pub sent : after.sent ≡ before.sent
  pub began : after.began ≡ length before.sent

pub data Doing (interface : InterfaceNumber) (heard : List (List ℕ)) (before after : Party) : Type 0
  where
    Event : TakesEvent interface heard before after → Doing interface heard before after
    Start : BeginsAnew before after → Doing interface heard before after

-- a turn of one of the two
pub record Turn (ends : Ends) (before after : Pair) : Type 0 where
  pub side : Side
  pub does : Doing (interface_of side ends) (party (other_side side) before).sent
      (party side before) (party side after)
  pub other : party (other_side side) after ≡ party (other_side side) before

-- ---- what happens in a turn

abbrev pub is_same_side : Side → Side → Bool
is_same_side Side.Left Side.Left = true
is_same_side Side.Left Side.Right = false
is_same_side Side.Right Side.Left = false
is_same_side Side.Right Side.Right = true

abbrev pub event_taken : {interface : InterfaceNumber} {heard : List (List ℕ)}
    {before after : Party} → Doing interface heard before after → Option Step
event_taken (Doing.Event t) = Some (record { moment = t.moment; event = t.event; outs = t.outs })
event_taken (Doing.Start b) = None

-- the event of the router of this side in the turn, if it is its turn and it doesn't restart
abbrev pub event_of : (ends : Ends) (side : Side) (before after : Pair) → Turn ends before after
    → Option Step
event_of ends side before after t =
    if is_same_side t.side side then event_taken t.does else None

-- ---- histories

pub record HasBegun (p : Party) : Type 0 where
  pub config : Config
  pub router : p.router ≡ initial config
  pub sent : p.sent ≡ []
  pub began : p.began ≡ 0

-- the two as they are now, and as they were before each turn, the last one first
abbrev pub IsHistory : Ends → Pair → List Pair → Type 0
IsHistory ends now [] = HasBegun now.left × HasBegun now.right
IsHistory ends now (before ∷ earlier) = Turn ends before now × IsHistory ends before earlier

-- a property of turns
abbrev pub OfTurn : Ends → Type 1
OfTurn ends = (before after : Pair) → Turn ends before after → Type 0

-- some turn of the history has the property
abbrev pub InSomeTurn : (ends : Ends) → OfTurn ends → (now : Pair) (earlier : List Pair)
    → IsHistory ends now earlier → Type 0
InSomeTurn ends Such now [] h = ⊥
InSomeTurn ends Such now (before ∷ earlier) h =
    Such before now h.0 ⊎ InSomeTurn ends Such before earlier h.1

-- some turn has the property, and since then this has held
abbrev pub InSomeTurnSince : (ends : Ends) → (Pair → Type 0) → OfTurn ends → (now : Pair)
    (earlier : List Pair) → IsHistory ends now earlier → Type 0
InSomeTurnSince ends Holds Such now [] h = ⊥
InSomeTurnSince ends Holds Such now (before ∷ earlier) h =
    Holds now × (Such before now h.0 ⊎ InSomeTurnSince ends Holds Such before earlier h.1)
