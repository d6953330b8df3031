use Rattle.std.proofs.Common.{◌≡◌, length, true, refl, sym, rules}
use Rattle.std.specs.Str.Parse.{digits_value}
use Rattle.std.proofs.lemmas.Str.Parse.{parse_digits, numerals_by_value, tells_all_ascii_digits}
use Rattle.asm.specs.WordNumbers.{is_numeral}
use Rattle.asm.proofs.NoNumber.{held_huge, is_digits, is_some, large}
use Rattle.asm.proofs.numeral.read_natural.Goals as goal

pub returns-in-Err : goal.returns-in-Err
returns-in-Err c =
    let w = c.args.word.now in
    let e : is_numeral w ≡ true = search rules in
    let k = parse_digits (numerals_by_value _ tells_all_ascii_digits) 64 w c.parse.result
    c.parse.ensures.value.0 (is_digits w e) in
    let none = rw c.in-Err.is at k in
    let some = is_some w e in
    sym (rw (e, held_huge (digits_value 10 w) (large (digits_value 10 w) (length w) none some))
    refl)
