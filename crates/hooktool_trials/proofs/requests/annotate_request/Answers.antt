use Rattle.std.proofs.Common.{◌∙◌, ap, sym, refl, codes, Some}
use Rattle.clap.specs.Matches.{found_of}
use Rattle.clap.specs.Walk.{rows_of}
use Rattle.hooktool_trials.proofs.Made.{has_none, has_word, no_annotate, some_is, some≢none}
use Rattle.hooktool_trials.proofs.requests.annotate_request.Goals as goal

pub returns-in_default : goal.returns-in_default
returns-in_default c =
    let rows = rows_of (found_of c.args.matches.now) in
    no_annotate rows (λ hook code object fuel has a b d. has_none rows (codes "HOOK")
    c.in_default.ensures _ has)

pub returns-in_default-from_name : goal.returns-in_default-from_name
returns-in_default-from_name c =
    let rows = rows_of (found_of c.args.matches.now) in
    no_annotate rows (λ hook code object fuel has a b d.
    some≢none hook (sym (c.from_name.ensures.only hook (some_is (c.in-Some.ensures ∙ has)))
    ∙ c.in_default-from_name.is))

pub returns-in_default-word_of : goal.returns-in_default-word_of
returns-in_default-word_of c =
    let rows = rows_of (found_of c.args.matches.now) in
    no_annotate rows (λ hook code object fuel a has b d. has_none rows (codes "CODE")
    c.in_default-word_of.ensures code has)

pub returns-in_default-word_of-2 : goal.returns-in_default-word_of-2
returns-in_default-word_of-2 c =
    let rows = rows_of (found_of c.args.matches.now) in
    no_annotate rows (λ hook code object fuel a b has d. has_none rows (codes "OBJECT")
    c.in_default-word_of-2.ensures object has)

pub returns-in-Err : goal.returns-in-Err
returns-in-Err c =
    let rows = rows_of (found_of c.args.matches.now) in
    no_annotate rows (λ hook code object fuel a b d has. c.in-Err.ensures fuel has)

pub returns : goal.returns
returns c =
    let rows = rows_of (found_of c.args.matches.now) in (
      refl,
      (
        sym c.in-Some.ensures ∙ ap Some c.in-Some-from_name.ensures.found,
        has_word rows (codes "CODE") c.in-Some-word_of.code c.in-Some-word_of.ensures,
        has_word rows (codes "OBJECT") c.in-Some-word_of-2.object c.in-Some-word_of-2.ensures,
        c.in-Ok.ensures,
      ),
    )
