use Rattle.std.proofs.Common.{map}
use Rattle.hooktool_trials.proofs.Read.{read}
use Rattle.hooktool_trials.proofs.reading.parse.Goals as goal

pub returns-in-Ok : goal.returns-in-Ok
returns-in-Ok c =
    read (map (λ w. w.now) c.args.words.now) c.in-Ok.matches c.request_of.result c.in-Ok.ensures.1
    c.in-Ok.ensures.0 c.request_of.ensures.ok c.request_of.ensures.err

pub returns-in-Err : goal.returns-in-Err
returns-in-Err c = c.in-Err.ensures
