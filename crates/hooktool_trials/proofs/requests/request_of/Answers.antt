use Rattle.clap.specs.Matches.{found_of}
use Rattle.clap.specs.Walk.{rows_of}
use Rattle.hooktool_trials.proofs.Made.{all_made, all_unnamed, all_wrong, named_rows, no_rows}
use Rattle.hooktool_trials.proofs.requests.request_of.Goals as goal

pub returns-in-Some-clause-ok : goal.returns-in-Some-clause-ok
returns-in-Some-clause-ok c =
    let named = named_rows _ c.subcommand.result (c.in-Some.name, c.in-Some.matches) c.in-Some.is
    c.subcommand.ensures.name c.subcommand.ensures.rows in
    all_made _ c.in-Some.name.now (rows_of (found_of c.in-Some.matches.now)) c.request_by.result
    named c.request_by.ensures.ok

pub returns-in-Some-clause-err : goal.returns-in-Some-clause-err
returns-in-Some-clause-err c =
    let named = named_rows _ c.subcommand.result (c.in-Some.name, c.in-Some.matches) c.in-Some.is
    c.subcommand.ensures.name c.subcommand.ensures.rows in
    all_wrong _ c.in-Some.name.now (rows_of (found_of c.in-Some.matches.now)) c.request_by.result
    named c.request_by.ensures.err

pub returns-in-None-clause-err : goal.returns-in-None-clause-err
returns-in-None-clause-err c = all_unnamed _ c.error.result
    (no_rows _ c.subcommand.result c.in-None.is c.subcommand.ensures.name) c.error.ensures
