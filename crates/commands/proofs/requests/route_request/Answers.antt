use Rattle.std.proofs.Common.{refl, codes}
use Rattle.clap.specs.Matches.{found_of}
use Rattle.clap.specs.Walk.{rows_of}
use Rattle.commands.proofs.Made.{has_none, has_word, no_route}
use Rattle.commands.proofs.requests.route_request.Goals as goal

pub returns-in_err-config : goal.returns-in_err-config
returns-in_err-config c =
    let rows = rows_of (found_of c.args.matches.now) in
    rw c.from_residual.ensures (no_route rows
    (has_none rows (codes "CONFIG") c.in_err-config.ensures))

pub returns : goal.returns
returns c =
    let rows = rows_of (found_of c.args.matches.now) in
    (refl, has_word rows (codes "CONFIG") c.in_ok-config.config c.in_ok-config.ensures)
