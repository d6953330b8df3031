use Rattle.std.proofs.Common.{sym, subst, inl, map}
use Rattle.clap.specs.Simple.{app_of}
use Rattle.commands.proofs.Read.{is_free_line, is_some_line, made, mistaken, no_command}
use Rattle.commands.proofs.Read.{refused, some_line, wrong_word}
use Rattle.commands.proofs.reading.parse.Goals as goal
use Rattle.commands.specs.Requests.{IsRefusal}

pub returns-in_err-whole : goal.returns-in_err-whole
returns-in_err-whole c =
    let words = map (λ w. w.now) c.args.words.now in (
      some_line,
      is_some_line,
      refused some_line words c.from_residual.result _
          c.from_residual.ensures.1 (λ e memory. inl memory),
    )

pub returns-in_err-matches : goal.returns-in_err-matches
returns-in_err-matches c =
    let words = map (λ w. w.now) c.args.words.now in
    let own = c.in_ok-whole.ensures in
    let line = app_of c.in_ok-whole.field-0 in
    let refusal = mistaken line words c.in_err-matches.field-0.0
    (c.in_err-matches.ensures.kinds (is_free_line line own)) in (
      line,
      own,
      refused line words c.from_residual-in_err-matches.result _
          c.from_residual-in_err-matches.ensures.1
          (λ e same. subst (IsRefusal line words) (sym same) refusal),
    )

pub returns-in_err-request : goal.returns-in_err-request
returns-in_err-request c =
    let words = map (λ w. w.now) c.args.words.now in
    let own = c.in_ok-whole.ensures in
    let line = app_of c.in_ok-whole.field-0 in
    let taken = c.in_ok-matches.ensures.kinds (is_free_line line own) in
    let refusal = wrong_word line words c.in_ok-matches.matches c.in_err-request.field-0.0 own
    c.in_ok-matches.ensures.matches taken c.in_err-request.ensures.err in (
      line,
      own,
      refused line words c.from_residual-in_err-request.result _
          c.from_residual-in_err-request.ensures.1
          (λ e same. subst (IsRefusal line words) (sym same) refusal),
    )

pub returns-in-Some : goal.returns-in-Some
returns-in-Some c =
    let words = map (λ w. w.now) c.args.words.now in
    let own = c.in_ok-whole.ensures in
    let line = app_of c.in_ok-whole.field-0 in
    let taken = c.in_ok-matches.ensures.kinds (is_free_line line own) in (
      line,
      own,
      (
        taken,
        made line words c.in_ok-matches.matches c.in_ok-request.field-0
            c.in-Some.request own c.in_ok-matches.ensures.matches c.in-Some.is
            c.in_ok-request.ensures.some,
      ),
    )

pub returns-in_err-error-in-None : goal.returns-in_err-error-in-None
returns-in_err-error-in-None c =
    let words = map (λ w. w.now) c.args.words.now in
    let own = c.in_ok-whole.ensures in
    let line = app_of c.in_ok-whole.field-0 in (
      line,
      own,
      refused line words c.from_residual-in_err-error-in-None.result _
          c.from_residual-in_err-error-in-None.ensures.1 (λ e memory. inl memory),
    )

pub returns : goal.returns
returns c =
    let words = map (λ w. w.now) c.args.words.now in
    let own = c.in_ok-whole.ensures in
    let line = app_of c.in_ok-whole.field-0 in
    let taken = c.in_ok-matches.ensures.kinds (is_free_line line own) in (
      line,
      own,
      no_command line words c.in_ok-matches.matches c.in_ok-error-in-None.field-0 own
          c.in_ok-matches.ensures.matches taken (c.in_ok-request.ensures.none c.in-None.is)
          c.in_ok-error-in-None.ensures,
    )
