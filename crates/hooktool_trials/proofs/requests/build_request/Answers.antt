use Rattle.std.proofs.Common.{refl, codes}
use Rattle.clap.specs.Matches.{found_of}
use Rattle.clap.specs.Walk.{rows_of}
use Rattle.hooktool_trials.proofs.Made.{has_none, has_word, no_build}
use Rattle.hooktool_trials.proofs.requests.build_request.Goals as goal

pub returns-in_default : goal.returns-in_default
returns-in_default c =
    let rows = rows_of (found_of c.args.matches.now) in
    no_build rows (λ file folder hook fuel has a b d. has_none rows (codes "FILE")
    c.in_default.ensures file has)

pub returns-in_default-word_of : goal.returns-in_default-word_of
returns-in_default-word_of c =
    let rows = rows_of (found_of c.args.matches.now) in
    no_build rows (λ file folder hook fuel a has b d. has_none rows (codes "FOLDER")
    c.in_default-word_of.ensures folder has)

pub returns-in_default-hook_of : goal.returns-in_default-hook_of
returns-in_default-hook_of c =
    let rows = rows_of (found_of c.args.matches.now) in
    no_build rows (λ file folder hook fuel a b has d. c.in_default-hook_of.ensures hook has)

pub returns-in-Err : goal.returns-in-Err
returns-in-Err c =
    let rows = rows_of (found_of c.args.matches.now) in
    no_build rows (λ file folder hook fuel a b d has. c.in-Err.ensures fuel has)

pub returns : goal.returns
returns c =
    let rows = rows_of (found_of c.args.matches.now) in (
      refl,
      (
        has_word rows (codes "FILE") c.in-Some.file c.in-Some.ensures,
        has_word rows (codes "FOLDER") c.in-Some-word_of.folder c.in-Some-word_of.ensures,
        c.in-Some-hook_of.ensures,
        c.in-Ok.ensures,
      ),
    )
