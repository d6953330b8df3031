use Rattle.event_rules.proofs.Roomy.{every_packet_has_room as all_have_room}
use Rattle.event_rules.proofs.laws.every_packet_has_room.Goals as goal

pub returns : goal.returns
returns c = all_have_room
