-- Tests of a packet and of the LSAs of a Link State Update.
use Rattle.std.specs.Prelude.{Bool, true, false, ◌==◌, ◌&&◌, ◌||◌, [], Option, None, Some}
use Rattle.words.specs.Numbers.{InterfaceNumber, Moment, RouterNumber}
use Rattle.packet.specs.declared.model.Packet.{Packet}
use Rattle.packet.specs.declared.model.PacketBody.{PacketBody}
use Rattle.packet.specs.declared.model.PacketBody.TheVariants as body
use Rattle.lsdb.specs.Headers.{Lsa}
use Rattle.adjacency.specs.Neighbors.{Neighbor, is_exchange_or_later}
use Rattle.adjacency.specs.declared.state.NeighborState.{NeighborState}
use Rattle.received.specs.Updates.{goes_on}
use Rattle.event_rules.specs.Packets.{neighbor_is_exchange_or_later, case_in, is_heard}
use Rattle.event_rules.specs.Routers.{Router}

-- ---- by the neighbor's Router ID and state

abbrev pub is_exchange_or_later_named : Option (RouterNumber × NeighborState) → Bool
is_exchange_or_later_named None = false
is_exchange_or_later_named (Some named) = is_exchange_or_later named.1

abbrev pub is_from_named : (from : RouterNumber) → Option (RouterNumber × NeighborState) → Bool
is_from_named from None = false
is_from_named from (Some named) = named.0 == from

-- ---- which packets are processed

-- it is processed before Exchange, too
abbrev pub is_accepted_before_exchange : PacketBody → Bool
is_accepted_before_exchange (body.Hello h) = true
is_accepted_before_exchange (body.Description d) = true
is_accepted_before_exchange (body.Request keys) = false
is_accepted_before_exchange (body.Update lsas) = false
is_accepted_before_exchange (body.Acknowledgment headers) = false

-- it is heard, and isn't discarded because the neighbor is before Exchange
abbrev pub is_processed : RouterNumber → Packet → Option Neighbor → Bool
is_processed own packet n =
    is_heard own packet n && (neighbor_is_exchange_or_later n || is_accepted_before_exchange
    packet.body)

-- ---- LSAs of a Link State Update

-- the Link State Update is processed further after this LSA, or after bytes that encode none
abbrev pub goes_on_at : Moment → InterfaceNumber → Option Lsa → Router → Bool
goes_on_at moment interface parsed r =
    goes_on (case_in moment interface parsed (record { router = r; sends = [] }))
