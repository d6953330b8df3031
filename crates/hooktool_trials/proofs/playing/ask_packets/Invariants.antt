use Rattle.maps.specs.Words.{IsSeatOf}
use Rattle.hooktool_trials.proofs.playing.ask_packets.Given as goal

-- the seat is the table's
abbrev pub invariant-loop-record : goal.invariant-loop-record
invariant-loop-record l = IsSeatOf l.shared l.seat
