-- What an event does to a router, and what the router sends: aging, the event's own part, the end
-- that all events share, and the packets. Each part is a function; only "these bytes encode this
-- packet" is a relation, and bytes encode at most one packet.
use Rattle.std.specs.Prelude.{◌≡◌, List, [], ◌∷◌}
use Rattle.words.specs.Numbers.{Moment}
use Rattle.packet.specs.declared.model.Packet.{Packet}
use Rattle.packet.specs.Text.{PacketText}
use Rattle.event_rules.specs.declared.model.Config.{Config}
use Rattle.event_rules.specs.declared.model.Out.{Out}
use Rattle.event_rules.specs.Commands.{after_install, after_link_down, after_redistribute}
use Rattle.event_rules.specs.Commands.{after_withdraw}
use Rattle.event_rules.specs.Endings.{start_event, end_event}
use Rattle.event_rules.specs.Originations.{originate_or_postpone, router_key}
use Rattle.event_rules.specs.Packets.{after_packet}
use Rattle.event_rules.specs.Packing.{outs_of}
use Rattle.event_rules.specs.EventState.{EventState}
use Rattle.event_rules.specs.Routers.{Occurrence, Router, unannounced_router}
use Rattle.event_rules.specs.Ticks.{after_tick}

-- ---- an event

-- the event's own part: from the state before it to the state after it; of Redistribute `tagged`
-- isn't used, since the event is refused unless both answers are for one destination (Refusals,
-- `clashes`)
abbrev pub OwnPart : Moment → Occurrence → EventState → EventState → Type 0
OwnPart moment (Occurrence.Packet interface bytes) before after =
    (packet : Packet) × PacketText bytes packet
    × (after ≡ after_packet moment interface packet before)
OwnPart moment Occurrence.Tick before after = after ≡ after_tick moment before
OwnPart moment (Occurrence.Redistribute tagged tag priced price) before after =
    after ≡ after_redistribute moment priced tag price before
OwnPart moment (Occurrence.Withdraw prefix) before after =
    after ≡ after_withdraw moment prefix before
OwnPart moment (Occurrence.Install answers) before after =
    after ≡ after_install answers before
OwnPart moment (Occurrence.LinkDown interface) before after =
    after ≡ after_link_down interface before

-- from the router `old`, the event at this moment sends these packets and results in the router
-- `new`; so it would also of an event that the router refuses (Refusals)
pub record Happens (old : Router) (moment : Moment) (event : Occurrence)
    (outs : List Out) (new : Router) : Type 0 where
  pub after : EventState
  pub own : OwnPart moment event (start_event moment old) after
  pub router : new ≡ (end_event old moment after).router
  pub sent : outs ≡ outs_of old.id old.area.links (end_event old moment after).sends

-- ---- a run

pub record Step : Type 0 where
  pub moment : Moment
  pub event : Occurrence
  pub outs : List Out

-- consecutive events, with what each sends
abbrev pub Run : Router → List Step → Router → Type 0
Run old [] new = new ≡ old
Run old (s ∷ steps) new =
    (middle : Router) × Happens old s.moment s.event s.outs middle × Run middle steps new

-- the router at its start: the router-LSA is originated, and there is no neighbor to send it to
abbrev pub initial : Config → Router
initial c =
    (originate_or_postpone c.start (router_key c.router) (record {
      router = unannounced_router c;
      sends = [];
    })).router
