use Rattle.std.proofs.Common.{arith}
use Rattle.hooktool_trials.proofs.RowWords.{no_row, row_parts, row_spelled}
use Rattle.hooktool_trials.proofs.rows.row_of.Goals as goal

pub returns-in_default : goal.returns-in_default
returns-in_default c = λ row is. no_row c.args.word.now c.split_once.result
    c.split_once.ensures.cases c.in_default.is row is

pub returns-in_default-read_prefix : goal.returns-in_default-read_prefix
returns-in_default-read_prefix c = λ row is.
    let parts = row_parts c.args.word.now c.split_once.result (c.in-Some.prefix, c.in-Some.cost)
    c.split_once.ensures.cases c.in-Some.is row is in
    c.in_default-read_prefix.ensures row.prefix is.1 parts.0

pub returns-in-Some-read_within : goal.returns-in-Some-read_within
returns-in-Some-read_within c = (
  row_spelled c.args.word.now c.split_once.result (c.in-Some.prefix, c.in-Some.cost)
      c.split_once.ensures.cases c.in-Some.is
      c.in-Some-read_prefix.prefix c.in-Some-read_within.cost c.in-Some-read_prefix.ensures.0
      c.in-Some-read_within.ensures.0,
  c.in-Some-read_prefix.ensures.1,
  omega (arith, c.in-Some-read_within.ensures.2),
)

pub returns-in-None : goal.returns-in-None
returns-in-None c = λ row is.
    let parts = row_parts c.args.word.now c.split_once.result (c.in-Some.prefix, c.in-Some.cost)
    c.split_once.ensures.cases c.in-Some.is row is in
    c.in-None.ensures row.cost (omega arith) (omega (arith, is.2)) parts.1
