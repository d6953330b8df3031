use Rattle.std.proofs.Common.{lit<}
use Rattle.std.proofs.lemmas.Str.Pattern.{strip_prefix_char}
use Rattle.asm.proofs.NoNumber.{distance_none}
use Rattle.asm.proofs.numeral.read_distance.Goals as goal

pub returns-in-None : goal.returns-in-None
returns-in-None c =
    let h = strip_prefix_char 43 c.args.word.now c.strip_prefix.result c.strip_prefix.ensures.cases
    (lit< tt) in
    let k = strip_prefix_char 45 c.args.word.now c.strip_prefix-2.result
    c.strip_prefix-2.ensures.cases (lit< tt) in
    distance_none c.args.word.now (rw c.in_default.is at h) (rw c.in-None.is at k)
