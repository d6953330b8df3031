use Rattle.std.proofs.Common.{◌∙◌, sym, lit<}
use Rattle.std.proofs.lemmas.Str.Pattern.{strip_suffix_char}
use Rattle.asm.proofs.Complete.{label_none, label_bad, label_good}
use Rattle.asm.proofs.reading.label_at.Goals as goal

pub returns-in_err-name-clause-value : goal.returns-in_err-name-clause-value
returns-in_err-name-clause-value c =
    let k = strip_suffix_char 58 c.args.word.now c.strip_suffix.result c.strip_suffix.ensures.cases
    (lit< tt) in
    rw c.from_residual.ensures (label_none c.args.word.now (rw c.in_err-name.was at k))

pub returns-then-not-is_name-clause-value : goal.returns-then-not-is_name-clause-value
returns-then-not-is_name-clause-value c =
    let k = strip_suffix_char 58 c.args.word.now c.strip_suffix.result c.strip_suffix.ensures.cases
    (lit< tt) in
    label_bad c.args.word.now c.in_ok-name.name.now (rw c.in_ok-name.was at k)
    (sym c.is_name.ensures ∙ c.if-not-is_name.true)

pub returns-clause-value : goal.returns-clause-value
returns-clause-value c =
    let k = strip_suffix_char 58 c.args.word.now c.strip_suffix.result c.strip_suffix.ensures.cases
    (lit< tt) in
    label_good c.args.word.now c.in_ok-name.name.now (rw c.in_ok-name.was at k)
    (sym c.is_name.ensures ∙ c.if-not-is_name.false)
