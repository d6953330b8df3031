use Rattle.std.proofs.Common.{◌≡◌, length}
use Rattle.machine.specs.Given.{given_by}
use Rattle.maps.specs.Words.{IsSeatOf}
use Rattle.hooktool_trials.proofs.runs.run_in_a_row.Given as goal
use Rattle.hooktool_trials.specs.Runs.{RunsInARow}

-- as many runs as turns led from the first seat to this one
abbrev pub invariant-loop-turn : goal.invariant-loop-turn
invariant-loop-turn l = IsSeatOf l.shared l.seat × (length l.endings.items ≡ l.turn)
    × RunsInARow l.bytes (given_by l.input) l.fn.seat l.endings.items l.seat
