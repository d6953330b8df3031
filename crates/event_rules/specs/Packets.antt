-- What a received packet does to the router (RFC 2328, sections 8.2, 10.5 to 10.7, 13 and 13.7).
use Rattle.std.specs.Prelude.{ℕ, ◌==◌, Bool, true, false, ◌&&◌, ◌||◌, if◌then◌else◌, List, [], ◌∷◌}
use Rattle.std.specs.Prelude.{map, Option, None, Some}
use Rattle.std.specs.List.{list_all}
use Rattle.words.specs.Numbers.{InterfaceNumber, Moment, RouterNumber}
use Rattle.words.specs.declared.key.Key.{Key}
use Rattle.lsa.specs.Reading.{lsa_in}
use Rattle.lsdb.specs.Headers.{Header, Lsa}
use Rattle.packet.specs.declared.model.PacketBody.{PacketBody}
use Rattle.packet.specs.declared.model.PacketBody.TheVariants as body
use Rattle.packet.specs.declared.model.Description.{Description}
use Rattle.packet.specs.declared.model.Hello.{Hello}
use Rattle.packet.specs.declared.model.Packet.{Packet}
use Rattle.adjacency.specs.Adjacencies as adjacencies
use Rattle.adjacency.specs.Contents.{Content, Step, no_sends}
use Rattle.adjacency.specs.Descriptions.{after_description}
use Rattle.adjacency.specs.Neighbors.{Neighbor}
use Rattle.adjacency.specs.Retransmissions.{after_acknowledgment}
pub use Rattle.adjacency.specs.Steps.{neighbor_is_exchange_or_later, is_there}
pub use Rattle.adjacency.specs.Steps.{lsas_of as requested_lsas}
use Rattle.received.specs.Cases.{Case}
use Rattle.received.specs.Links.{Link, change_link, link_at, neighbor_at}
use Rattle.received.specs.AreaStates.{AreaState, sends_at, on_links, one_neighbor, sending}
use Rattle.received.specs.Updates.{after_case, case_at, goes_on}
pub use Rattle.event_rules.specs.Hellos.{accepts, agrees, is_foreign, may_be, names}
use Rattle.event_rules.specs.Originations.{receive_self_originated}
use Rattle.event_rules.specs.EventState.{EventState, on_area}

-- ---- Hellos (section 10.5)

abbrev pub with_neighbor : Neighbor → Link → Link
with_neighbor n link = record link { neighbor = Some n }

abbrev pub accept_hello : Moment → InterfaceNumber → Step → AreaState → AreaState
accept_hello moment interface s o =
    sending moment (sends_at interface s.sends)
    (on_links (change_link interface (with_neighbor s.neighbor)) o)

abbrev pub receive_hello_on : (own : RouterNumber) → Moment → InterfaceNumber
    → (from : RouterNumber) → Hello → Option Link → AreaState → AreaState
receive_hello_on own moment interface from h None o = o
receive_hello_on own moment interface from h (Some link) o =
    if accepts own from h link
    then accept_hello moment interface
    (adjacencies.after_hello moment from (names own h) link.neighbor) o else o

abbrev pub receive_hello : (own : RouterNumber) → Moment → InterfaceNumber
    → (from : RouterNumber) → Hello → AreaState → AreaState
receive_hello own moment interface from h o =
    receive_hello_on own moment interface from h (link_at interface o.area.links) o

-- ---- Link State Requests (section 10.7)

-- the LSAs are sent, without being put on the retransmission list; if one is missing, none is sent
abbrev pub receive_request : Moment → InterfaceNumber → List Key → AreaState → AreaState
receive_request moment interface keys o =
    if list_all (is_there o.area.database) keys
    then sending moment
    (sends_at interface (map Content.Updates (requested_lsas moment o.area.database keys))) o
    else one_neighbor moment interface (adjacencies.mismatch_step moment) o

-- ---- Link State Updates (section 13)

-- a self-originated LSA that was installed is originated again or flushed
abbrev pub after_self_originated : Case → Moment → Lsa → EventState → EventState
after_self_originated Case.Unreadable moment lsa p = p
after_self_originated Case.NothingToFlush moment lsa p = p
after_self_originated Case.TooSoon moment lsa p = p
after_self_originated Case.Newer moment lsa p = receive_self_originated moment lsa p
after_self_originated Case.BadRequest moment lsa p = p
after_self_originated Case.ImpliedAcknowledgment moment lsa p = p
after_self_originated Case.Duplicate moment lsa p = p
after_self_originated Case.SequenceWraps moment lsa p = p
after_self_originated Case.SentJustNow moment lsa p = p
after_self_originated Case.Older moment lsa p = p

abbrev pub after_lsa : Case → Moment → InterfaceNumber → Lsa → EventState → EventState
after_lsa case moment interface lsa p =
    after_self_originated case moment lsa (on_area (after_case case moment interface lsa) p)

-- the case of the LSA in the bytes, or `Unreadable` if they encode none
abbrev pub case_in : Moment → InterfaceNumber → Option Lsa → EventState → Case
case_in moment interface None p = Case.Unreadable
case_in moment interface (Some lsa) p = case_at moment interface lsa p.router.area

abbrev pub after_parsed : Moment → InterfaceNumber → Option Lsa → EventState → EventState
after_parsed moment interface None p = p
after_parsed moment interface (Some lsa) p =
    after_lsa (case_at moment interface lsa p.router.area) moment interface lsa p

-- the LSAs of a Link State Update in order, up to a bad request
abbrev pub after_lsas : Moment → InterfaceNumber → List (List ℕ) → EventState → EventState
after_lsas moment interface [] p = p
after_lsas moment interface (bytes ∷ rest) p =
    let q : EventState = after_parsed moment interface (lsa_in bytes) p in
    if goes_on (case_in moment interface (lsa_in bytes) p) then
    after_lsas moment interface rest q else q

-- ---- the complete packet

-- the packet's sender is the interface's neighbor
abbrev pub is_from : RouterNumber → Option Neighbor → Bool
is_from from None = false
is_from from (Some n) = n.router == from

abbrev pub receive_description : RouterNumber → Moment → InterfaceNumber → Description → AreaState
    → AreaState
receive_description own moment interface d o =
    one_neighbor moment interface (after_description own moment o.area.database d) o

abbrev pub receive_acknowledgment : Moment → InterfaceNumber → List Header → AreaState → AreaState
receive_acknowledgment moment interface headers o =
    one_neighbor moment interface (λ n. no_sends (after_acknowledgment moment headers n)) o

-- a packet that is heard: a Hello of any other router, or another packet from the interface's
-- neighbor; Link State Requests, Updates and Acknowledgments are ignored before Exchange
abbrev pub after_heard : Moment → InterfaceNumber → RouterNumber → Bool → PacketBody → EventState
    → EventState
after_heard moment interface from exchange_or_later (body.Hello h) p =
    on_area (receive_hello p.router.id moment interface from h) p
after_heard moment interface from exchange_or_later (body.Description d) p =
    on_area (receive_description p.router.id moment interface d) p
after_heard moment interface from exchange_or_later (body.Request keys) p =
    if exchange_or_later then on_area (receive_request moment interface keys) p else p
after_heard moment interface from exchange_or_later (body.Update lsas) p =
    if exchange_or_later then after_lsas moment interface lsas p else p
after_heard moment interface from exchange_or_later (body.Acknowledgment headers) p =
    if exchange_or_later then on_area (receive_acknowledgment moment interface headers) p else p

abbrev pub is_hello : PacketBody → Bool
is_hello (body.Hello h) = true
is_hello (body.Description d) = false
is_hello (body.Request keys) = false
is_hello (body.Update lsas) = false
is_hello (body.Acknowledgment headers) = false

-- a packet is heard if its Router ID is neither 0 nor this router's own, and if it is a Hello or
-- comes from the interface's neighbor; any other one is discarded
abbrev pub is_heard : RouterNumber → Packet → Option Neighbor → Bool
is_heard own packet n =
    is_foreign own packet.router && (is_hello packet.body || is_from packet.router n)

abbrev pub after_packet : Moment → InterfaceNumber → Packet → EventState → EventState
after_packet moment interface packet p =
    let n : Option Neighbor = neighbor_at interface p.router.area.links in
    if is_heard p.router.id packet n
    then after_heard moment interface packet.router (neighbor_is_exchange_or_later n)
    packet.body p
    else p
