use Rattle.clap.specs.Matches.{found_of}
use Rattle.clap.specs.Walk.{rows_of}
use Rattle.std.proofs.Common.{codes, refl}
use Rattle.hooktool_trials.proofs.Made.{has_none, has_word, no_question, no_try}
use Rattle.hooktool_trials.proofs.requests.try_request.Goals as goal

pub returns-in_default : goal.returns-in_default
returns-in_default c =
    let rows = rows_of (found_of c.args.matches.now) in
    no_try rows (λ object question has b. has_none rows (codes "OBJECT") c.in_default.ensures object
    has)

pub returns-in-Ok : goal.returns-in-Ok
returns-in-Ok c =
    let rows = rows_of (found_of c.args.matches.now) in
    (refl, (has_word rows (codes "OBJECT") c.in-Some.object c.in-Some.ensures, c.in-Ok.ensures))

pub returns-in-Err : goal.returns-in-Err
returns-in-Err c = no_question (rows_of (found_of c.args.matches.now)) c.in-Err.lack
    c.in-Err.ensures
