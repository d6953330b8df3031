use Rattle.std.proofs.Common.{sym, arith}
use Rattle.machine.specs.declared.state.StackByte.TheVariants.{Nothing}
use Rattle.machine.specs.Faults.{is_nothing_byte}
use Rattle.interp.proofs.Lists.{has_none}
use Rattle.interp.proofs.pieces.has_nothing.Goals as goal

pub returns : goal.returns
returns c = sym (has_none is_nothing_byte c.args.found.now Nothing
    (λ i l. c.loop-byte.invariant i (let no = c.loop-byte-test.false in omega arith)))
