use Rattle.std.proofs.Common.{refl, codes}
use Rattle.clap.specs.Matches.{found_of}
use Rattle.clap.specs.Walk.{rows_of}
use Rattle.hooktool_trials.proofs.Made.{has_none, has_word, no_test}
use Rattle.hooktool_trials.proofs.requests.test_request.Goals as goal

pub returns-in-None : goal.returns-in-None
returns-in-None c =
    let rows = rows_of (found_of c.args.matches.now) in
    no_test rows (has_none rows (codes "FILE") c.in-None.ensures)

pub returns-in-Some : goal.returns-in-Some
returns-in-Some c =
    let rows = rows_of (found_of c.args.matches.now) in
    (refl, has_word rows (codes "FILE") c.in-Some.file c.in-Some.ensures)
