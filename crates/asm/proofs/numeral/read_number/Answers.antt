use Rattle.std.proofs.Common.{◌∙◌, lit<}
use Rattle.std.proofs.lemmas.Str.Pattern.{strip_prefix_char}
use Rattle.asm.proofs.NoNumber.{number_unsigned}
use Rattle.asm.proofs.numeral.read_number.Goals as goal

pub returns-in-None : goal.returns-in-None
returns-in-None c =
    let k = strip_prefix_char 45 c.args.word.now c.strip_prefix.result c.strip_prefix.ensures.cases
    (lit< tt) in
    c.read_natural.ensures ∙ number_unsigned c.args.word.now (rw c.in-None.is at k)
