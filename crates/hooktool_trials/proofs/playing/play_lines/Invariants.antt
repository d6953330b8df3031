use Rattle.maps.specs.Words.{IsSeatOf}
use Rattle.hooktool_trials.proofs.playing.play_lines.Given as goal

-- the seat is the table's
abbrev pub invariant-loop-line : goal.invariant-loop-line
invariant-loop-line g l = IsSeatOf l.shared l.seat
