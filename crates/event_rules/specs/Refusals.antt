-- When an event is refused, and why, in the order in which the reasons are checked.
use Rattle.std.specs.Prelude.{◌≡◌, ℕ, Bool, true, false, not, ◌&&◌, ◌||◌, nat_le, nat_lt}
use Rattle.std.specs.Prelude.{if◌then◌else◌, List, length, Option, None, Some, Result, Ok, Err}
use Rattle.std.specs.FinMap as finite
use Rattle.words.specs.Constants.{clock_end}
use Rattle.words.specs.Numbers.{InterfaceNumber, Moment}
use Rattle.packet.specs.declared.refusal.PacketFault.{PacketFault}
use Rattle.packet.specs.Reading.{fault_of}
use Rattle.words.specs.Prefixes.{Network}
use Rattle.words.specs.declared.route.External.{External}
use Rattle.event_rules.specs.declared.model.CoreError.{CoreError}
use Rattle.event_rules.specs.declared.model.CoreError.TheVariants as error
use Rattle.event_rules.specs.declared.model.Out.{Out}
use Rattle.event_rules.specs.Commands.{is_for, same_external}
use Rattle.event_rules.specs.Events.{Happens}
use Rattle.lsdb.specs.Limits.{exceeds as database_exceeds}
use Rattle.received.specs.Links.{any_long_list}
use Rattle.event_rules.specs.Originations.{external_key}
use Rattle.event_rules.specs.Routers.{Occurrence, Router}

-- the clock went back, or is out of range
abbrev pub is_clock_back : Moment → Router → Bool
is_clock_back moment old = nat_lt moment old.moment || nat_le clock_end moment

abbrev pub bad_packet : Option PacketFault → Option CoreError
bad_packet None = None
bad_packet (Some f) = Some (error.BadPacket f)

abbrev pub is_interface : InterfaceNumber → Router → Bool
is_interface interface r = nat_le 1 interface && nat_le interface (length r.area.links)

-- another announced prefix has this Link State ID
abbrev pub is_taken : Network → Option External → Bool
is_taken prefix None = false
is_taken prefix (Some e) = not (is_for prefix (Some e))

-- the two answers are for different destinations, or the Link State ID is that of another announced
-- prefix
abbrev pub clashes : Router → External → External → Bool
clashes old tagged priced =
    not (same_external tagged priced)
    || is_taken priced.prefix (finite.get old.announced (external_key old.id priced.prefix))

abbrev pub no_interface : InterfaceNumber → Router → Option CoreError → Option CoreError
no_interface interface old otherwise =
    if is_interface interface old then otherwise else Some error.NoInterface

-- why the event is refused before anything of it is done
abbrev pub of_event : Router → Occurrence → Option CoreError
of_event old (Occurrence.Packet interface bytes) =
    no_interface interface old (bad_packet (fault_of bytes))
of_event old Occurrence.Tick = None
of_event old (Occurrence.Redistribute tagged tag priced price) =
    if clashes old tagged priced then Some error.Clash else None
of_event old (Occurrence.Withdraw prefix) = None
of_event old (Occurrence.Install answers) = None
of_event old (Occurrence.LinkDown interface) = no_interface interface old None

-- the first reason that applies, apart from the limits
abbrev pub refusal_before_limits : Router → Moment → Occurrence → Option CoreError
refusal_before_limits old moment event =
    if is_clock_back moment old then Some error.ClockBack else of_event old event

-- ---- limits

-- more than 16,384 LSAs, or more than 4,096 self-originated AS-external-LSAs among them; or an
-- interface with more than 16,384 LSAs to be requested, or with more than 32,768 delayed
-- acknowledgments
abbrev pub exceeds : Router → Bool
exceeds r = database_exceeds r.id r.area.database || any_long_list r.area.links

-- nothing else is wrong with the event, and its result would exceed a limit
pub record WouldExceed (old : Router) (moment : ℕ) (event : Occurrence) : Type 0 where
  pub lawful : refusal_before_limits old moment event ≡ None
  pub outs : List Out
  pub new : Router
  pub happens : Happens old moment event outs new
  pub too_much : exceeds new ≡ true

-- ---- results

-- the reason to refuse is neither the clock nor the interface
abbrev pub MayLackMemory : Option CoreError → Type 0
MayLackMemory refusal = (refusal ≡ Some error.ClockBack → ⊥)
    × (refusal ≡ Some error.NoInterface → ⊥)

-- no rule refuses the event
abbrev pub IsAllowed : Router → Moment → Occurrence → Type 0
IsAllowed old moment event =
    (refusal_before_limits old moment event ≡ None) × (WouldExceed old moment event → ⊥)

-- The result is the reason that applies, or `Ok` if none does. `Memory` is only possible if neither
-- the clock nor the interface is the reason.
abbrev pub RefusesByRules : {X : Type 0} → Router → ℕ → Occurrence → Result X CoreError → Type 0
RefusesByRules old moment event (Ok x) = IsAllowed old moment event
RefusesByRules old moment event (Err error.Full) = WouldExceed old moment event
RefusesByRules old moment event (Err error.Memory) = MayLackMemory
    (refusal_before_limits old moment event)
RefusesByRules old moment event (Err (error.BadPacket f)) =
    refusal_before_limits old moment event ≡ Some (error.BadPacket f)
RefusesByRules old moment event (Err error.NoInterface) =
    refusal_before_limits old moment event ≡ Some error.NoInterface
RefusesByRules old moment event (Err error.Clash) =
    refusal_before_limits old moment event ≡ Some error.Clash
RefusesByRules old moment event (Err error.ClockBack) =
    refusal_before_limits old moment event ≡ Some error.ClockBack
