use Rattle.std.proofs.Common.{arith}
use Rattle.words.proofs.Addresses.{no_place, place_parts, place_spelled}
use Rattle.words.proofs.parsing.read_address_and_length.Goals as goal

pub returns-in_default : goal.returns-in_default
returns-in_default c = λ n small few e. no_place c.args.word.now c.split_once.result
    c.split_once.ensures.cases c.in_default.is n e

pub returns-in_default-read_address : goal.returns-in_default-read_address
returns-in_default-read_address c = λ n small few e.
    let parts = place_parts c.args.word.now c.split_once.result
    (c.in-Some.address, c.in-Some.length) c.split_once.ensures.cases c.in-Some.is n e in
    c.in_default-read_address.ensures n.address small parts.0

pub returns-in-Some-read_within : goal.returns-in-Some-read_within
returns-in-Some-read_within c = (
  place_spelled c.args.word.now c.split_once.result (c.in-Some.address, c.in-Some.length)
      c.split_once.ensures.cases c.in-Some.is
      c.in-Some-read_address.address c.in-Some-read_within.length c.in-Some-read_address.ensures.0
      c.in-Some-read_within.ensures.0,
  c.in-Some-read_address.ensures.1,
  c.in-Some-read_within.ensures.2,
)

pub returns-in-None : goal.returns-in-None
returns-in-None c = λ n small few e.
    let parts = place_parts c.args.word.now c.split_once.result
    (c.in-Some.address, c.in-Some.length) c.split_once.ensures.cases c.in-Some.is n e in
    c.in-None.ensures n.length (omega arith) few parts.1
