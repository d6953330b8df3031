use Rattle.std.proofs.Common.{refl}
use Rattle.hooktool_trials.proofs.OrElse.{given}
use Rattle.hooktool_trials.proofs.PacketWords.{lacks, lacks_given, of_no_file}
use Rattle.hooktool_trials.proofs.packets.packet_in.Goals as goal
use Rattle.hooktool_trials.specs.Words.{IsNoPacket, IsPacket}
use Rattle.hooktool_trials.specs.declared.requests.PacketSource.TheVariants as packets

pub returns-in-Ok : goal.returns-in-Ok
returns-in-Ok c =
    given _ c.args.word c.in-Some.word (IsNoPacket (packets.Bytes c.in-Ok.bytes))
    (λ w. IsPacket w (packets.Bytes c.in-Ok.bytes)) refl c.in-Some.is (
      of_no_file c.in-Some.word.now c.strip_prefix.result c.strip_prefix.ensures.cases
          c.in_default-strip_prefix.is,
      c.in-Ok.ensures.ok,
    )

pub returns-in-Err : goal.returns-in-Err
returns-in-Err c =
    lacks_given c.args.word c.in-Some.word c.without_packet.result c.in-Some.is
    (lacks c.in-Some.word.now c.in-Err.error c.without_packet.result
    (of_no_file c.in-Some.word.now c.strip_prefix.result c.strip_prefix.ensures.cases
    c.in_default-strip_prefix.is)
    c.in-Err.ensures.err c.without_packet.ensures)
