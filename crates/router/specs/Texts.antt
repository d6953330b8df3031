-- The bodies of packets that are sent.
use Rattle.packet.specs.declared.model.PacketBody.{PacketBody}
use Rattle.packet.specs.Ranges.{LsasAreWhole}
pub use Rattle.event_rules.specs.Packing.{IsSentText}
use Rattle.event_rules.specs.PackingLaws.{HasPacketRoom}

-- it fits into a packet, and each LSA of a Link State Update has the length that it gives
abbrev pub CanBeSent : PacketBody → Type 0
CanBeSent says = HasPacketRoom says × LsasAreWhole says
