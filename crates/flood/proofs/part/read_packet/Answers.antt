use Rattle.std.proofs.Common.{ap}
use Rattle.event_rules.specs.Packets.{after_packet}
use Rattle.flood.proofs.part.read_packet.Goals as goal

pub returns-clause-part : goal.returns-clause-part
returns-clause-part c = record {
  own = λ moment before. (
    c.in_ok-packet.packet,
    c.in_ok-packet.ensures.found,
    ap (λ number. after_packet moment number c.in_ok-packet.packet before) c.from.ensures,
  );
}
