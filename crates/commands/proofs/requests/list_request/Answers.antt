use Rattle.std.proofs.Common.{refl, codes}
use Rattle.clap.specs.Matches.{found_of}
use Rattle.clap.specs.Walk.{rows_of}
use Rattle.commands.proofs.Made.{has_none, has_word, no_list}
use Rattle.commands.proofs.requests.list_request.Goals as goal

pub returns-in_err-object : goal.returns-in_err-object
returns-in_err-object c =
    let rows = rows_of (found_of c.args.matches.now) in
    rw c.from_residual.ensures (no_list rows
    (has_none rows (codes "OBJECT") c.in_err-object.ensures))

pub returns : goal.returns
returns c =
    let rows = rows_of (found_of c.args.matches.now) in
    (refl, has_word rows (codes "OBJECT") c.in_ok-object.object c.in_ok-object.ensures)
