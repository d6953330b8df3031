use Rattle.object.proofs.Packing.{eight_packed}
use Rattle.object.proofs.stack.packed_byte.Goals as goal

pub returns : goal.returns
returns c =
    let here = eight_packed c.args.bits.now c.requires in
    rw (
      c.bit.ensures.value,
      c.bit-2.ensures.value,
      c.bit-3.ensures.value,
      c.bit-4.ensures.value,
      c.bit-5.ensures.value,
      c.bit-6.ensures.value,
      c.bit-7.ensures.value,
      c.bit-8.ensures.value,
    )
    here
