use Rattle.std.proofs.Common.{◌∙◌, arith}
use Rattle.words.proofs.Addresses.{address_spelled, address_unread}
use Rattle.words.proofs.parsing.read_address.Goals as goal

pub returns-in-Ok : goal.returns-in-Ok
returns-in-Ok c = (
  address_spelled c.args.word.now c.in-Ok.address c.new.result
      c.in-Ok.ensures.value (c.new.ensures ∙ c.to_bits.ensures),
  omega (arith, c.to_bits.type_inv),
)

pub returns-in-Err : goal.returns-in-Err
returns-in-Err c = λ a small. address_unread c.args.word.now c.in-Err.ensures.value a
