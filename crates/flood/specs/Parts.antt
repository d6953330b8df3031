-- The own part of an event in the code, after its bytes are parsed and its answers checked for
-- agreement.
use Rattle.std.specs.Prelude.{◌≡◌, ℕ, ◌≤◌, true, false, List, [], Option, None, Some, Result, Ok}
use Rattle.std.specs.Prelude.{Err, if◌then◌else◌}
use Rattle.words.specs.Numbers.{Moment}
use Rattle.packet.specs.Reading.{fault_of}
use Rattle.event_rules.specs.declared.model.CoreError.{CoreError}
use Rattle.event_rules.specs.declared.model.CoreError.TheVariants as error
use Rattle.event_rules.specs.declared.model.Out.{Out}
use Rattle.event_rules.specs.Commands.{after_install, after_link_down, after_redistribute}
use Rattle.event_rules.specs.Commands.{after_withdraw}
use Rattle.event_rules.specs.Endings.{end_event, flood_aged}
use Rattle.event_rules.specs.Events.{OwnPart}
use Rattle.event_rules.specs.EventState.{EventState, on_area}
use Rattle.event_rules.specs.Packets.{after_packet}
use Rattle.event_rules.specs.Packing.{outs_of}
use Rattle.event_rules.specs.Refusals.{bad_packet, clashes, exceeds}
use Rattle.event_rules.specs.Routers.{Occurrence, Router}
use Rattle.event_rules.specs.Ticks.{after_tick}
use Rattle.flood.specs.declared.part.Part.{Part}
use Rattle.flood.specs.declared.part.Part.TheVariants as part

-- ---- its result

abbrev pub after_part : Part → Moment → EventState → EventState
after_part (part.Packet interface packet) moment p =
    after_packet moment interface packet p
after_part part.Tick moment p = after_tick moment p
after_part (part.Redistribute external tag price) moment p =
    after_redistribute moment external tag price p
after_part (part.Withdraw prefix) moment p = after_withdraw moment prefix p
after_part (part.Install answers) moment p = after_install answers p
after_part (part.LinkDown interface) moment p = after_link_down interface p

-- it is the own part of this event
pub record IsPartOf (event : Occurrence) (p : Part) : Type 0 where
  pub own : (moment : Moment) (before : EventState)
      → OwnPart moment event before (after_part p moment before)

-- the packet was received at one of the given number of interfaces
abbrev pub HasInterface : Part → ℕ → Type 0
HasInterface (part.Packet interface packet) count = (1 ≤ interface) × (interface ≤ count)
HasInterface part.Tick count = Unit {0}
HasInterface (part.Redistribute external tag price) count = Unit {0}
HasInterface (part.Withdraw prefix) count = Unit {0}
HasInterface (part.Install answers) count = Unit {0}
HasInterface (part.LinkDown interface) count = Unit {0}

-- ---- the complete event

-- aging, the own part, and the end; `old` is the router before the event
abbrev pub after_event : Router → Moment → Part → EventState → EventState
after_event old moment p before =
    end_event old moment (after_part p moment (on_area (flood_aged old.moment moment) before))

-- nothing was sent before
abbrev pub made_state : Router → Moment → Part → EventState
made_state old moment p = after_event old moment p (record { router = old; sends = [] })

-- the event sends these packets and results in the router `new`
pub record PartHappens (old : Router) (moment : Moment) (p : Part) (sent : List Out) (new : Router)
    : Type 0 where
  pub router : new ≡ (made_state old moment p).router
  pub outs : sent ≡ outs_of old.id old.area.links (made_state old moment p).sends

-- ---- refusals that depend on the bytes, or on the answers

abbrev pub late_refusal : Router → Occurrence → Option CoreError
late_refusal old (Occurrence.Packet interface bytes) = bad_packet (fault_of bytes)
late_refusal old Occurrence.Tick = None
late_refusal old (Occurrence.Redistribute tagged tag priced price) =
    if clashes old tagged priced then Some error.Clash else None
late_refusal old (Occurrence.Withdraw prefix) = None
late_refusal old (Occurrence.Install answers) = None
late_refusal old (Occurrence.LinkDown interface) = None

-- the result is the refusal that applies, or that an allocation was refused
abbrev pub RefusesAs : {X : Type 0} → Option CoreError → Result X CoreError → Type 0
RefusesAs refusal (Ok x) = refusal ≡ None
RefusesAs refusal (Err error.Memory) = Unit {0}
RefusesAs refusal (Err (error.BadPacket f)) = refusal ≡ Some (error.BadPacket f)
RefusesAs refusal (Err error.NoInterface) = refusal ≡ Some error.NoInterface
RefusesAs refusal (Err error.Clash) = refusal ≡ Some error.Clash
RefusesAs refusal (Err error.ClockBack) = refusal ≡ Some error.ClockBack
RefusesAs refusal (Err error.Full) = refusal ≡ Some error.Full

-- `Ok` only within the limits, `Full` only beyond them; `Memory` in either case
abbrev pub RefusesAtLimit : {X : Type 0} → Router → Result X CoreError → Type 0
RefusesAtLimit new (Ok x) = exceeds new ≡ false
RefusesAtLimit new (Err error.Full) = exceeds new ≡ true
RefusesAtLimit new (Err error.Memory) = Unit {0}
RefusesAtLimit new (Err (error.BadPacket f)) = ⊥
RefusesAtLimit new (Err error.NoInterface) = ⊥
RefusesAtLimit new (Err error.Clash) = ⊥
RefusesAtLimit new (Err error.ClockBack) = ⊥
