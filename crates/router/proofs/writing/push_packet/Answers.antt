use Rattle.std.proofs.Common.{subst}
use Rattle.packet.specs.Text.{PacketText}
use Rattle.event_rules.specs.Packing.{packet_of}
use Rattle.router.proofs.writing.push_packet.Goals as goal

pub returns-clause-text : goal.returns-clause-text
returns-clause-text c =
    subst (λ bytes. PacketText bytes (packet_of c.args.own c.args.body))
    c.in_ok-bytes.ensures.canonical (c.in_ok-bytes.ensures.text c.requires.whole)
