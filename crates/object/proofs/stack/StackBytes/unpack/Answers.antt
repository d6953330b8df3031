use Rattle.std.proofs.Common.{◌∙◌, refl, arith, length-set}
use Rattle.object.proofs.Packing.{bits_packed, bits_more}
use Rattle.object.proofs.stack.StackBytes.unpack.Goals as goal

pub loop-byte-init : goal.loop-byte-init
loop-byte-init c = record { long = refl; bits = λ k lt. absurd (omega (arith, lt)) }

pub loop-byte-preserved : goal.loop-byte-preserved
loop-byte-preserved c =
    let long = c.loop-byte.invariant.long in
    record {
      long = length-set c.loop-byte.set c.loop-byte.byte c.has_bit.result ∙ long;
      bits = bits_more _ _ _ _ (omega arith) c.loop-byte.invariant.bits c.has_bit.ensures;
    }

pub invariant_of-result : goal.invariant_of-result
invariant_of-result c = c.loop-byte.invariant.long

pub returns : goal.returns
returns c =
    let long = c.loop-byte.invariant.long in
    let size = c.requires in
    record {
      packed = bits_packed c.args.bytes.now c.loop-byte.set
          (λ i. let fits = c.type_inv.bytes i in omega arith) (omega arith)
          (λ k lt. c.loop-byte.invariant.bits k (omega arith));
      are = c.loop-byte.invariant.long;
    }
