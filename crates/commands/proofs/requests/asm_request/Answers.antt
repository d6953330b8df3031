use Rattle.std.proofs.Common.{refl, codes}
use Rattle.clap.specs.Matches.{found_of}
use Rattle.clap.specs.Walk.{rows_of}
use Rattle.commands.proofs.Made.{has_none, has_word, no_asm}
use Rattle.commands.proofs.requests.asm_request.Goals as goal

pub returns-in_err-source : goal.returns-in_err-source
returns-in_err-source c =
    let rows = rows_of (found_of c.args.matches.now) in
    rw c.from_residual.ensures (no_asm rows
    (λ source object has rest. has_none rows (codes "SOURCE") c.in_err-source.ensures source
    has))

pub returns-in_err-object : goal.returns-in_err-object
returns-in_err-object c =
    let rows = rows_of (found_of c.args.matches.now) in
    rw c.from_residual-in_err-object.ensures
    (no_asm rows (λ source object rest has. has_none rows (codes "OBJECT")
    c.in_err-object.ensures object has))

pub returns : goal.returns
returns c =
    let rows = rows_of (found_of c.args.matches.now) in (
      refl,
      (
        has_word rows (codes "SOURCE") c.in_ok-source.source c.in_ok-source.ensures,
        has_word rows (codes "OBJECT") c.in_ok-object.object c.in_ok-object.ensures,
      ),
    )
