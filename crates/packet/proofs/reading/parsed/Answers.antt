use Rattle.packet.specs.Reading.{least_length}
use Rattle.std.proofs.Common.{Some}
use Rattle.packet.proofs.Sizes.{room_behind}
use Rattle.packet.proofs.reading.parsed.Goals as goal

pub body-requires-clause-room : goal.body-requires-clause-room
body-requires-clause-room c = room_behind c.args.bytes.now c.behind.result.now
    (least_length (Some c.in-Ok.kind)) c.in-Ok.ensures.room c.behind.ensures
