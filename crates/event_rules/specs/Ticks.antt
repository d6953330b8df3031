-- What a Tick does, in order (RFC 2328, sections 9.5, 10.3, 12.4, 13.5 and 13.6).
use Rattle.std.specs.Prelude.{ℕ, if◌then◌else◌, List, [], ◌∷◌, map, Option, None, Some}
use Rattle.std.specs.FinMap as finite
use Rattle.words.specs.Numbers.{Moment, Seconds}
use Rattle.adjacency.specs.Adjacencies.{after_inactivity_timer}
use Rattle.adjacency.specs.Contents.{Content}
use Rattle.adjacency.specs.Descriptions.{without_old_description}
use Rattle.adjacency.specs.Neighbors.{Neighbor}
use Rattle.adjacency.specs.Retransmissions.{send_again}
use Rattle.received.specs.Links.{Link}
use Rattle.received.specs.AreaStates.{AreaState, Stepping, each_neighbor, on_links, sending}
use Rattle.received.specs.AreaStates.{sends_of}
pub use Rattle.event_rules.specs.Hellos.{with_hello_sent, hello_is_due, hello_on, is_due}
use Rattle.event_rules.specs.Originations.{due_keys, forget_originations, originate_due}
use Rattle.event_rules.specs.EventState.{EventState, on_area, on_router}

-- ---- timers that have expired

abbrev pub settled_exchange : Moment → Seconds → Option Neighbor → Option Neighbor
settled_exchange moment dead None = None
settled_exchange moment dead (Some n) = Some (without_old_description moment dead n)

-- an inactive neighbor is Down; the last Database Description is discarded some time after the
-- exchange
abbrev pub expire_timers : Moment → Link → Link
expire_timers moment link = record link {
  neighbor =
      settled_exchange moment link.interface.dead_interval
      (after_inactivity_timer moment link.interface.dead_interval link.neighbor);
}

-- ---- what is retransmitted

abbrev pub again : ℕ → AreaState → Stepping
again moment o interface link n =
    send_again moment link.interface.retransmit_interval o.area.database n

abbrev pub send_all_again : Moment → AreaState → AreaState
send_all_again moment o = each_neighbor moment (again moment o) o

-- ---- delayed acknowledgments

abbrev pub acknowledgments_on : Link → List Content
acknowledgments_on link = map Content.Acknowledges (finite.values link.acknowledgments)

abbrev pub without_acknowledgments : Link → Link
without_acknowledgments link = record link { acknowledgments = finite.empty }

abbrev pub send_acknowledgments : Moment → AreaState → AreaState
send_acknowledgments moment o =
    sending moment (sends_of acknowledgments_on o.area.links)
    (on_links (map without_acknowledgments) o)

-- ---- Hellos

abbrev pub hello_sent_on : Moment → Link → List Content
hello_sent_on moment link =
    if hello_is_due moment link then Content.SendsHello (hello_on link) ∷ [] else []

abbrev pub send_hellos : Moment → AreaState → AreaState
send_hellos moment o =
    sending moment (sends_of (hello_sent_on moment) o.area.links)
    (on_links (map (with_hello_sent moment)) o)

-- ---- the complete Tick

abbrev pub after_tick : Moment → EventState → EventState
after_tick moment p =
    let after_timers : EventState =
    on_router (forget_originations moment) (on_area (on_links (map (expire_timers moment))) p) in
    let renewed : EventState = originate_due moment (due_keys moment after_timers.router)
    after_timers in
    on_area (λ o. send_hellos moment (send_acknowledgments moment (send_all_again moment o)))
    renewed
