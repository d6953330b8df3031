use Rattle.clap.specs.Matches.{found_of}
use Rattle.clap.specs.Walk.{rows_of}
use Rattle.hooktool_trials.proofs.Made.{no_plain}
use Rattle.hooktool_trials.proofs.requests.made_by.Goals as goal

pub returns-in-Err : goal.returns-in-Err
returns-in-Err c = no_plain c.args.name.now (rows_of (found_of c.args.matches.now))
    c.in_default.not-try c.in-Err.ensures
