use Rattle.words.proofs.Addresses.{prefix_read}
use Rattle.words.proofs.parsing.read_prefix.Goals as goal

pub returns : goal.returns
returns c = prefix_read c.args.word.now c.in_ok-address.address c.in_ok-address.length c.new.result
    c.in_ok-address.ensures.0 c.in_ok-address.ensures.1 c.in_ok-address.ensures.2 c.new.ensures
