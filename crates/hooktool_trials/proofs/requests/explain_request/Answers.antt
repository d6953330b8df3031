use Rattle.std.proofs.Common.{refl, codes}
use Rattle.clap.specs.Matches.{found_of}
use Rattle.clap.specs.Walk.{rows_of}
use Rattle.hooktool_trials.proofs.Made.{has_none, has_word, no_explain}
use Rattle.hooktool_trials.proofs.requests.explain_request.Goals as goal

pub returns-in-None : goal.returns-in-None
returns-in-None c =
    let rows = rows_of (found_of c.args.matches.now) in
    no_explain rows (has_none rows (codes "OBJECT") c.in-None.ensures)

pub returns-in-Some : goal.returns-in-Some
returns-in-Some c =
    let rows = rows_of (found_of c.args.matches.now) in
    (refl, has_word rows (codes "OBJECT") c.in-Some.object c.in-Some.ensures)
