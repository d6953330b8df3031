use Rattle.std.proofs.Common.{◌<◌, ◌^◌, arith}
use Rattle.words.proofs.Decimals.{one_number}
use Rattle.words.proofs.parsing.read_within.Goals as goal

pub returns-in_default : goal.returns-in_default
returns-in_default c = λ n low high e.
    let small : n < 2 ^ 64 = omega arith in
    let same = one_number c.args.word.now c.in-Some.number n c.in-Some.ensures.1 small
    c.in-Some.ensures.0 e in omega arith

pub returns-in_default-2 : goal.returns-in_default-2
returns-in_default-2 c = λ n low high e.
    let small : n < 2 ^ 64 = omega arith in
    let same = one_number c.args.word.now c.in-Some.number n c.in-Some.ensures.1 small
    c.in-Some.ensures.0 e in omega arith
