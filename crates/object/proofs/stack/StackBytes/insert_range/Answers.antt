use Rattle.std.proofs.Common.{length, true, ap, ◌∙◌, arith, set}
use Rattle.object.proofs.Ranges.{with_range-none, with_range-more, length-with_range}
use Rattle.object.proofs.stack.StackBytes.insert_range.Goals as goal

pub loop-byte-init : goal.loop-byte-init
loop-byte-init c = with_range-none c.args.start c.self.inside.bytes

pub invariant_of-self : goal.invariant_of-self
invariant_of-self c =
    let long = c.self.told in
    ap length c.loop-byte.invariant ∙ length-with_range c.args.start c.loop-byte.byte
    c.self.inside.bytes (omega arith) (omega arith) ∙ long

pub loop-byte-preserved : goal.loop-byte-preserved
loop-byte-preserved c =
    let long = c.self.told in
    ap (λ t. set t c.loop-byte.byte true) c.loop-byte.invariant
    ∙ with_range-more c.args.start c.loop-byte.byte c.self.inside.bytes (omega arith)
    (omega arith)
