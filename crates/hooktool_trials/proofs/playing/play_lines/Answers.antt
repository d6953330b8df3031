use Rattle.hooktool_trials.proofs.Ended.{stops_at}
use Rattle.hooktool_trials.proofs.playing.play_lines.Goals as goal

pub returns-in-Err : goal.returns-in-Err
returns-in-Err g c = stops_at g.R.WholeFiles.known c.args.lines.now c.loop-line.line-index _
    c.line-item.result c.in-Err.error c.loop-line-test.true c.line-item.is c.in-Err.ensures.fault
