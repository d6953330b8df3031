use Rattle.words.proofs.Decimals.{not_digits, with_leading_zero, spelled, unread}
use Rattle.words.proofs.parsing.read_decimal.Goals as goal

pub returns-then-not-is_digits : goal.returns-then-not-is_digits
returns-then-not-is_digits c = not_digits c.args.word.now (cc)

pub returns-then-has_leading_zero : goal.returns-then-has_leading_zero
returns-then-has_leading_zero c = with_leading_zero c.args.word.now (cc)

pub returns-in-Ok : goal.returns-in-Ok
returns-in-Ok c = spelled c.args.word.now c.parse.result c.in-Ok.number (cc) (cc)
    c.parse.ensures.value.0 c.in-Ok.is

pub returns-in-Err : goal.returns-in-Err
returns-in-Err c = unread c.args.word.now c.parse.result c.in-Err.field-0 c.parse.ensures.value.0
    c.in-Err.is
