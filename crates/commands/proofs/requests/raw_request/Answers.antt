use Rattle.std.proofs.Common.{◌∙◌, ap, sym, refl, codes, Some}
use Rattle.clap.specs.Matches.{found_of}
use Rattle.clap.specs.Walk.{rows_of}
use Rattle.commands.proofs.Made.{has_none, has_word, no_raw, some_is, some≢none}
use Rattle.commands.proofs.requests.raw_request.Goals as goal

pub returns-in_err-word_of : goal.returns-in_err-word_of
returns-in_err-word_of c =
    let rows = rows_of (found_of c.args.matches.now) in
    rw c.from_residual.ensures (no_raw rows
    (λ hook file seats has rest more. has_none rows (codes "HOOK") c.in_err-word_of.ensures _
    has))

pub returns-in_err-hook : goal.returns-in_err-hook
returns-in_err-hook c =
    let rows = rows_of (found_of c.args.matches.now) in
    rw c.from_residual-in_err-hook.ensures (no_raw rows (λ hook file seats has rest more.
    some≢none hook (sym (c.from_name.ensures.only hook (some_is (c.in_ok-word_of.ensures ∙ has)))
    ∙ c.in_err-hook.was)))

pub returns-in_err-file : goal.returns-in_err-file
returns-in_err-file c =
    let rows = rows_of (found_of c.args.matches.now) in
    rw c.from_residual-in_err-file.ensures
    (no_raw rows (λ hook file seats rest has more. has_none rows (codes "FILE")
    c.in_err-file.ensures file has))

pub returns-in_err-seats : goal.returns-in_err-seats
returns-in_err-seats c =
    let rows = rows_of (found_of c.args.matches.now) in
    rw c.from_residual-in_err-seats.ensures
    (no_raw rows (λ hook file seats rest more has. c.seats_of.ensures.none c.in_err-seats.was
    seats has))

pub returns : goal.returns
returns c =
    let rows = rows_of (found_of c.args.matches.now) in (
      refl,
      (
        sym c.in_ok-word_of.ensures ∙ ap Some c.in_ok-hook.ensures.found,
        has_word rows (codes "FILE") c.in_ok-file.file c.in_ok-file.ensures,
        c.in_ok-seats.ensures.some,
      ),
    )
