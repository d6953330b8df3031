use Rattle.std.proofs.Common.{◌∙◌, sym, ap, arith, [], refl}
use denote.Ref.{Bor}
use Rattle.asm.specs.Words.{Word}
use Rattle.asm.specs.Reading.{line_of}
use Rattle.asm.proofs.Seen.{seen, found, none_more}
use Rattle.asm.proofs.reading.line_of.Goals as goal

-- what is read past a slice's end
abbrev none : Bor Word
none = record { ref_ptr = (0, 0); now = [] }

pub returns-in-empty-clause-value : goal.returns-in-empty-clause-value
unfolding line_of
returns-in-empty-clause-value c = rw (seen c.args.words.now none 0 (omega arith), c.plain.ensures)
    refl

pub returns-in-len1-clause-value : goal.returns-in-len1-clause-value
unfolding line_of
returns-in-len1-clause-value c = c.one.ensures.value
    ∙ sym (ap line_of (seen c.args.words.now none 1 (omega arith)))

pub returns-in-len1-clause-found : goal.returns-in-len1-clause-found
returns-in-len1-clause-found c = found c.one.result _ _ (seen c.args.words.now none 1 (omega arith))
    c.one.ensures.found

pub returns-in-len2-clause-value : goal.returns-in-len2-clause-value
unfolding line_of
returns-in-len2-clause-value c = c.two.ensures.value
    ∙ sym (ap line_of (seen c.args.words.now none 2 (omega arith)))

pub returns-in-len2-clause-found : goal.returns-in-len2-clause-found
returns-in-len2-clause-found c = found c.two.result _ _ (seen c.args.words.now none 2 (omega arith))
    c.two.ensures.found

pub returns-in-len3-clause-value : goal.returns-in-len3-clause-value
unfolding line_of
returns-in-len3-clause-value c = c.three.ensures.value
    ∙ sym (ap line_of (seen c.args.words.now none 3 (omega arith)))

pub returns-in-len3-clause-found : goal.returns-in-len3-clause-found
returns-in-len3-clause-found c = found c.three.result _ _
    (seen c.args.words.now none 3 (omega arith)) c.three.ensures.found

pub returns-in-len4-clause-value : goal.returns-in-len4-clause-value
unfolding line_of
returns-in-len4-clause-value c = c.four.ensures.value
    ∙ sym (ap line_of (seen c.args.words.now none 4 (omega arith)))

pub returns-in-len4-clause-found : goal.returns-in-len4-clause-found
returns-in-len4-clause-found c = found c.four.result _ _
    (seen c.args.words.now none 4 (omega arith)) c.four.ensures.found

pub returns-in-len5-clause-value : goal.returns-in-len5-clause-value
unfolding line_of
returns-in-len5-clause-value c = c.five.ensures.value
    ∙ sym (ap line_of (seen c.args.words.now none 5 (omega arith)))

pub returns-in-len5-clause-found : goal.returns-in-len5-clause-found
returns-in-len5-clause-found c = found c.five.result _ _
    (seen c.args.words.now none 5 (omega arith)) c.five.ensures.found

pub returns-in-len6-clause-value : goal.returns-in-len6-clause-value
unfolding line_of
returns-in-len6-clause-value c = c.six.ensures.value
    ∙ sym (ap line_of (seen c.args.words.now none 6 (omega arith)))

pub returns-in-len6-clause-found : goal.returns-in-len6-clause-found
returns-in-len6-clause-found c = found c.six.result _ _ (seen c.args.words.now none 6 (omega arith))
    c.six.ensures.found

pub returns-in-len7-clause-value : goal.returns-in-len7-clause-value
unfolding line_of
returns-in-len7-clause-value c = c.seven.ensures.value
    ∙ sym (ap line_of (seen c.args.words.now none 7 (omega arith)))

pub returns-in-len7-clause-found : goal.returns-in-len7-clause-found
returns-in-len7-clause-found c = found c.seven.result _ _
    (seen c.args.words.now none 7 (omega arith)) c.seven.ensures.found

pub returns-in-len8-clause-value : goal.returns-in-len8-clause-value
unfolding line_of
returns-in-len8-clause-value c = c.eight.ensures.value
    ∙ sym (ap line_of (seen c.args.words.now none 8 (omega arith)))

pub returns-in-len8-clause-found : goal.returns-in-len8-clause-found
returns-in-len8-clause-found c = found c.eight.result _ _
    (seen c.args.words.now none 8 (omega arith)) c.eight.ensures.found

pub returns-in-len10-clause-value : goal.returns-in-len10-clause-value
unfolding line_of
returns-in-len10-clause-value c = c.ten.ensures.value
    ∙ sym (ap line_of (seen c.args.words.now none 10 (omega arith)))

pub returns-in-len10-clause-found : goal.returns-in-len10-clause-found
returns-in-len10-clause-found c = found c.ten.result _ _
    (seen c.args.words.now none 10 (omega arith)) c.ten.ensures.found

pub returns-in-len9-clause-value : goal.returns-in-len9-clause-value
unfolding line_of
returns-in-len9-clause-value c = rw (c.nine.ensures, seen c.args.words.now none 9 (omega arith))
    refl

pub returns-in-len9-clause-found : goal.returns-in-len9-clause-found
returns-in-len9-clause-found c = rw c.nine.ensures tt

pub returns-in_default-clause-value : goal.returns-in_default-clause-value
returns-in_default-clause-value c = none_more c.args.words.now (omega arith)
